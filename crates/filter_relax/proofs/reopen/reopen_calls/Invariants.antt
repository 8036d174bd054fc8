-- The visited slots of the calls that are not left are reopened and counted; the lowest call of those left is next.
use Rattle.filter_relax.proofs.Laws.Reopen.{CallsReopened}
use Rattle.filter_relax.proofs.reopen.reopen_calls.Given as goal

abbrev pub invariant-loop-left : goal.invariant-loop-left
invariant-loop-left l = CallsReopened l.total l.calls l.left l.visited l.initial.slots l.slots

abbrev pub decreases-loop-left : goal.decreases-loop-left
decreases-loop-left l = l.left
