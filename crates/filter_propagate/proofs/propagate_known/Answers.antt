-- The loop has made steps from the start, and has counted by how many fewer slots are open; what remains falls with each step.
use Rattle.std.proofs.Common.{arith}
use Rattle.filter_support.specs.Strikes.{is_open}
use Rattle.filter_propagate.specs.Steps.{start, more}
use Rattle.tables.specs.Laws.Count.{count_le}
use Rattle.tables.specs.Laws.Flags.{flags_length}
use Rattle.filter_propagate.specs.Laws.Queue.{none_idle}
use Rattle.filter_propagate.specs.Laws.Step.{step_less}
use Rattle.filter_propagate.proofs.propagate_known.Goals as goal

pub loop-p-init : goal.loop-p-init
loop-p-init c = (omega arith, start, omega arith, c.requires.known)

pub overflow_add-total : goal.overflow_add-total
overflow_add-total c =
    omega (arith, count_le is_open c.args.slots.now, c.told-slots)

pub loop-p-smaller : goal.loop-p-smaller
loop-p-smaller c = step_less _ _ _ _ _ c.step-done.ensures.stepped (flags_length 64 _)

pub loop-p-preserved : goal.loop-p-preserved
loop-p-preserved c =
    (omega arith, more c.loop-p.invariant.1 c.step-done.ensures.stepped, omega (arith, c.loop-p.invariant.2), c.step-done.ensures.known_2)

pub returns : goal.returns
returns c =
    record { steps = rw c.in_default.ensures at c.loop-p.invariant.1; idle = none_idle; drop = c.loop-p.invariant.2 }
