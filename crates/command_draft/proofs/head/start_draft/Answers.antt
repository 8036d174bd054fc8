-- What is given back of the draft is right on every ledger.
use Rattle.command_draft.proofs.Laws.Redraft.{redraft_promise}
use Rattle.command_draft.proofs.Laws.Drafts.{head_right}
use Rattle.command_draft.proofs.head.start_draft.Goals as goal

pub returns : goal.returns
returns c = rw c.outcome_of.ensures (redraft_promise _ (head_right _ _ _ _ c.redraft-next.ensures))
