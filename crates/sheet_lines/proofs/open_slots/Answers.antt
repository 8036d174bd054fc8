-- One slot more is written in each round.
use Rattle.std.proofs.Common.{sym, arith}
use Rattle.sheet_lines.specs.Calls.{open_number}
use Rattle.sheet_lines.proofs.Laws.Append.{append_same, room_same}
use Rattle.sheet_lines.proofs.Laws.Calls.{open_joined}
use Rattle.sheet_lines.proofs.Laws.Joined.{joined_none, joined_more, joined_at, joined_room}
use Rattle.sheet_lines.proofs.open_slots.Goals as goal

pub loop-s-init : goal.loop-s-init
loop-s-init c = joined_none _ _ _

pub open_slot-next-requires-clause-room : goal.open_slot-next-requires-clause-room
open_slot-next-requires-clause-room c =
    let room = room_same (sym (open_joined c.args.slots.now c.args.c)) c.requires.room in
    joined_room (open_number c.args.slots.now c.args.c) {n = 32} (omega arith) room c.loop-s.invariant

pub loop-s-preserved : goal.loop-s-preserved
loop-s-preserved c =
    joined_more _ c.loop-s.invariant c.open_slot-next.ensures

pub returns : goal.returns
returns c = append_same (open_joined _ _) (joined_at _ c.loop-s.invariant (omega arith) (omega arith))
