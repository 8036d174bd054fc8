-- The slots that are not left are open; the lowest of those left is next.
use Rattle.filter_relax.proofs.Laws.Reopen.{SlotsReopened}
use Rattle.filter_relax.proofs.reopen.reopen_slots.Given as goal

abbrev pub invariant-loop-left : goal.invariant-loop-left
invariant-loop-left l = SlotsReopened l.c l.mask l.left l.initial.slots l.slots

abbrev pub decreases-loop-left : goal.decreases-loop-left
decreases-loop-left l = l.left
