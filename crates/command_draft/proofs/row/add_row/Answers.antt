-- What is given back of the draft is right on every ledger.
use Rattle.command_draft.proofs.Laws.Redraft.{redraft_promise}
use Rattle.command_draft.proofs.Laws.Drafts.{row_right}
use Rattle.command_draft.proofs.row.add_row.Goals as goal

pub returns : goal.returns
returns c slots = rw c.outcome_of.ensures (redraft_promise _ (row_right _ slots _ _ c.redraft-next.ensures))
