-- Each entry loses the rule in its round.
use Rattle.tables.specs.Sweep.{Swept}
use Rattle.masks.specs.Laws.Rules.{Leaves}
use Rattle.masks.proofs.rules.drop_rule.Given as goal

abbrev pub invariant-loop-c : goal.invariant-loop-c
invariant-loop-c l = Swept 0 (Leaves l.p) 0 l.c l.initial.on l.on
