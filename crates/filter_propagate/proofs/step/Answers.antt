-- The revision says on which calls a slot was struck, and the rules on those calls are enqueued. What it knows is known.
use Rattle.std.proofs.Common.{refl}
use Rattle.tables.specs.Laws.Flags.{flag_set}
use Rattle.filter_propagate.specs.Laws.Step.{step_enqueued}
use Rattle.filter_propagate.proofs.step.Goals as goal

pub returns : goal.returns
returns c =
    record { stepped = step_enqueued _ _ _ _ _ c.requires.p_bound (flag_set 64 _ _ c.requires.p_bound c.requires.has) c.revise-done.ensures.revision refl c.requires.rules_on c.enqueue.ensures; known_2 = c.revise-done.ensures.known_2 }
