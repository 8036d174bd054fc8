-- The slots that are not left are open; the lowest of those left is next.
use Rattle.std.proofs.Common.{arith}
use Rattle.tables.specs.Laws.Left.{left_lowest}
use Rattle.filter_relax.proofs.Laws.Reopen.{slots_more, slots_done}
use Rattle.filter_relax.proofs.reopen.reopen_slots.Goals as goal

pub loop-left-preserved : goal.loop-left-preserved
loop-left-preserved c = slots_more c.loop-left-test.true (omega (arith, (left_lowest c.loop-left-test.true c.loop-left.invariant.lowest).place)) c.loop-left.invariant

pub returns : goal.returns
returns c = slots_done (omega arith) c.loop-left-test.false c.loop-left.invariant
