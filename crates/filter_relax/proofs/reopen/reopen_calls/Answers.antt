-- The visited slots of the calls that are not left are reopened and counted; the lowest call of those left is next.
use Rattle.std.specs.Int.Count.{count_trailing_zeros}
use Rattle.std.proofs.Common.{arith, get_or}
use Rattle.filter_relax.proofs.Laws.Reopen.{call_le, calls_more, calls_done, total_few}
use Rattle.filter_relax.proofs.reopen.reopen_calls.Goals as goal

pub overflow_add-total : goal.overflow_add-total
overflow_add-total c =
    omega (arith, c.slots_in-total.ensures, call_le (get_or c.args.visited.now (count_trailing_zeros 32 c.loop-left.left) 0), total_few c.loop-left.invariant)

pub loop-left-preserved : goal.loop-left-preserved
loop-left-preserved c =
    calls_more c.loop-left.invariant c.loop-left-test.true c.reopen_slots.ensures c.slots_in-total.ensures

pub returns : goal.returns
returns c =
    calls_done _ c.args.visited.now c.requires c.loop-left-test.false c.loop-left.invariant
