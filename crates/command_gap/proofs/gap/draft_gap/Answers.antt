-- What is given back of the draft is right on every ledger.
use Rattle.command_draft.proofs.Laws.Redraft.{redraft_promise}
use Rattle.command_gap.proofs.Laws.Checks.{gap_right}
use Rattle.command_gap.proofs.gap.draft_gap.Goals as goal

pub returns : goal.returns
returns c = rw c.outcome_of.ensures (redraft_promise _ (gap_right _ _ _ c.redraft-next.ensures))
