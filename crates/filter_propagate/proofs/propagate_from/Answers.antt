-- The first revision is a step, from where only p is pending. Where it struck nothing no rule is pending after it; else the other steps follow it.
use Rattle.std.proofs.Common.{arith}
use Rattle.filter_support.specs.Strikes.{is_open}
use Rattle.filter_propagate.specs.Steps.{start, more}
use Rattle.tables.specs.Laws.Count.{count_le}
use Rattle.filter_propagate.specs.Laws.Queue.{none_idle}
use Rattle.filter_propagate.specs.Laws.Step.{first_enqueued, first_quiet}
use Rattle.filter_propagate.specs.Laws.Steps.{propagated_before}
use Rattle.filter_support.specs.Laws.Known.{known_none}
use Rattle.filter_propagate.proofs.propagate_from.Goals as goal

pub revise-first-requires : goal.revise-first-requires
revise-first-requires c = record { p_bound = c.requires; known = known_none _ _ c.none-masks.ensures }

pub returns-then-first-eq0 : goal.returns-then-first-eq0
returns-then-first-eq0 c =
    record { steps = more start (first_quiet _ _ _ _ _ _ c.requires c.revise-first.ensures.revision c.if-first-eq0.true); idle = none_idle; drop = omega arith }

pub overflow_add-result : goal.overflow_add-result
overflow_add-result c =
    omega (arith, count_le is_open c.args.slots.now, c.told-slots)

pub returns : goal.returns
returns c =
    propagated_before _
    (first_enqueued _ _ _ _ _ _ c.requires c.revise-first.ensures.revision c.rules_on_calls-on.ensures c.enqueue-pending.ensures)
    c.propagate_known-rest.ensures
