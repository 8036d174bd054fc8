-- By the test the call is cancelled, and a dash is written, or the numbers of its open slots are.
use Rattle.std.proofs.Common.{sym}
use Rattle.sheet_lines.proofs.Laws.Append.{append_same, room_same}
use Rattle.sheet_lines.proofs.Laws.Calls.{dash, no_dash}
use Rattle.sheet_lines.proofs.call_slots.Goals as goal

pub write_bytes-requires : goal.write_bytes-requires
write_bytes-requires c =
    room_same (dash c.args.slots.now c.args.c c.if-slots-c.true) c.requires.room

pub open_slots-requires-clause-room : goal.open_slots-requires-clause-room
open_slots-requires-clause-room c =
    room_same (no_dash c.args.slots.now c.args.c c.if-slots-c.false) c.requires.room

pub returns-then-slots-c : goal.returns-then-slots-c
returns-then-slots-c c =
    append_same (sym (dash c.args.slots.now c.args.c c.if-slots-c.true)) c.write_bytes.ensures

pub returns-else-slots-c : goal.returns-else-slots-c
returns-else-slots-c c =
    append_same (sym (no_dash c.args.slots.now c.args.c c.if-slots-c.false)) c.open_slots.ensures
