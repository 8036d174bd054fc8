-- The rule's bytes and the slots are as the post left them; counts and draft stay.
use Rattle.std.specs.Prelude.{refl}
use Rattle.command_rules.proofs.post.post_unchecked.Goals as goal

pub returns : goal.returns
returns c =
    rw c.accepted.ensures
    (record {
      struck = _;
      done = rw c.rule_index-p.ensures at c.post-n.ensures.done;
      counts = c.post-n.ensures.counts;
      draft = refl;
      answer_is = refl;
    })
