-- The rule's bytes and the slots are as the retraction left them; counts and draft stay.
use Rattle.std.specs.Prelude.{refl}
use Rattle.command_rules.proofs.retract.retract_unchecked.Goals as goal

pub returns : goal.returns
returns c =
    rw c.accepted.ensures
    (record {
      reopened = _;
      touched = _;
      done = rw c.rule_index-p.ensures at c.retract-done.ensures.done;
      counts = c.retract-done.ensures.counts;
      draft = refl;
      answer_is = refl;
    })
