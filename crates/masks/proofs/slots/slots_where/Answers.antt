-- One slot more is tested with each round.
use Rattle.std.proofs.Common.{arith}
use Rattle.masks.specs.Laws.Slots.{tested_none, tested_more}
use Rattle.masks.proofs.slots.slots_where.Goals as goal

pub loop-s-init : goal.loop-s-init
loop-s-init g c = tested_none

pub loop-s-preserved : goal.loop-s-preserved
loop-s-preserved g c = rw c.from.ensures (tested_more _ (omega arith) c.test.ensures c.loop-s.invariant)
