-- What is refused, and when, is the check's; what a retraction leaves is the stepped ledger's.
use Rattle.std.specs.Prelude.{refl}
use Rattle.command_rules.proofs.Laws.Changes.{retract_refused, retract_accepted}
use Rattle.command_rules.proofs.retract.retract.Goals as goal

pub returns-in-Err : goal.returns-in-Err
returns-in-Err c ns = rw c.refused.ensures (retract_refused _ _ ns _ c.in-Err.ensures)

pub returns : goal.returns
returns c ns =
    rw c.accepted.ensures
    (retract_accepted _ _ ns _ _ (record {
      reopened = _;
      touched = _;
      done = rw (← c.rule_index-p.ensures) c.retract-count.ensures.done;
      counts = c.retract-count.ensures.counts;
      draft = refl;
      answer_is = refl;
    }) c.in_default.ensures)
