-- What is refused, and when, is the check's; what a post leaves is the stepped ledger's.
use Rattle.std.specs.Prelude.{refl}
use Rattle.layout.specs.Memory.{memory}
use Rattle.command_rules.proofs.Laws.Changes.{post_refused, post_accepted}
use Rattle.command_rules.proofs.post.post.Goals as goal

pub returns-in-Err : goal.returns-in-Err
returns-in-Err c ns = rw c.refused.ensures (post_refused _ ns _ c.in-Err.ensures)

pub returns : goal.returns
returns c ns =
    rw c.accepted.ensures
    (post_accepted _ ns _ (memory (record { heads = _; draft = _ }) _ _ _) (record {
      struck = _;
      done = rw (← c.rule_index-p.ensures) c.post-struck.ensures.done;
      counts = c.post-struck.ensures.counts;
      draft = refl;
      answer_is = refl;
    }) _ c.empty-value.ensures c.in_default.ensures)
