-- The slots that are not left are struck; the lowest of those left is next.
use Rattle.filter_support.specs.Laws.Strikes.{Striking}
use Rattle.filter_support.proofs.strikes.strike_slots.Given as goal

abbrev pub invariant-loop-left : goal.invariant-loop-left
invariant-loop-left l = Striking l.lost l.p l.c l.initial.slots l.slots l.left l.total

abbrev pub decreases-loop-left : goal.decreases-loop-left
decreases-loop-left l = l.left
