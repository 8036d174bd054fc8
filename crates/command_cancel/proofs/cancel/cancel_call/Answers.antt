-- What is refused, and when, is the check's; what a cancellation leaves is the stepped ledger's.
use Rattle.command_cancel.proofs.Laws.Cancels.{cancel_refused, cancel_accepted}
use Rattle.command_cancel.proofs.cancel.cancel_call.Goals as goal

pub returns-in-Err : goal.returns-in-Err
returns-in-Err c ns = rw c.refused.ensures (cancel_refused _ _ ns _ (c.in-Err.ensures))

pub returns : goal.returns
returns c ns = cancel_accepted _ _ ns _ _ c.cancel_unchecked.ensures (c.in_default.ensures)
