-- One call's line more is written in each round.
use Rattle.std.proofs.Common.{arith}
use Rattle.sheet_lines.specs.Calls.{slot_line}
use Rattle.sheet_lines.proofs.Laws.Joined.{joined_none, joined_more, joined_room}
use Rattle.sheet_lines.proofs.call_lines.Goals as goal

pub loop-c-init : goal.loop-c-init
loop-c-init c = joined_none _ _ _

pub call_line-next-requires-clause-room : goal.call_line-next-requires-clause-room
call_line-next-requires-clause-room c =
    joined_room (slot_line c.args.slots.now) {n = c.args.n} (omega arith) c.requires.room c.loop-c.invariant

pub loop-c-preserved : goal.loop-c-preserved
loop-c-preserved c =
    joined_more _ c.loop-c.invariant c.call_line-next.ensures
