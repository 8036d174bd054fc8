-- The three calls write the parts of the line, and there is room for each after the ones before it.
use Rattle.sheet_lines.proofs.Laws.Append.{append_more, append_same, room_parts, room_first, room_rest}
use Rattle.sheet_lines.proofs.Laws.Calls.{slot_parts}
use Rattle.sheet_lines.proofs.call_line.Goals as goal

pub write_start-numbered-requires-clause-room : goal.write_start-numbered-requires-clause-room
write_start-numbered-requires-clause-room c =
    room_first (room_parts (slot_parts c.args.slots.now c.args.c) c.requires.room)

pub call_slots-listed-requires-clause-room : goal.call_slots-listed-requires-clause-room
call_slots-listed-requires-clause-room c =
    let room = room_parts (slot_parts c.args.slots.now c.args.c) c.requires.room in
    room_first (room_rest room c.write_start-numbered.ensures)

pub write_byte-requires : goal.write_byte-requires
write_byte-requires c =
    let room = room_parts (slot_parts c.args.slots.now c.args.c) c.requires.room in
    room_first (room_rest (room_rest room c.write_start-numbered.ensures) c.call_slots-listed.ensures)

pub returns : goal.returns
returns c =
    append_same (slot_parts _ _).same (append_more c.write_start-numbered.ensures (append_more c.call_slots-listed.ensures c.write_byte.ensures))
