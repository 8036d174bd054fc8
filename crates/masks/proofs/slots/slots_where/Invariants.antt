-- One slot more is tested with each round.
use Rattle.masks.specs.Slots.{SlotsTested}
use Rattle.masks.proofs.slots.slots_where.Given as goal

abbrev pub invariant-loop-s : goal.invariant-loop-s
invariant-loop-s g l = SlotsTested (goal.F-post g l.test) l.slots l.c l.s l.m
