-- The rules on the calls join the pending ones, and rule p leaves.
use Rattle.std.proofs.Common.{arith}
use Rattle.masks.specs.Laws.Rules.{enqueues}
use Rattle.masks.proofs.rules.enqueue.Goals as goal

pub returns : goal.returns
returns c =
    enqueues c.ranges.pending.fits (omega (arith, c.rules_on.type_inv)) (omega (arith, c.without.type_inv)) c.rules_on.ensures c.without.ensures
