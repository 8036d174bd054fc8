-- By the test the slot is open, and its number is written, or is not.
use Rattle.std.proofs.Common.{sym}
use Rattle.sheet_lines.proofs.Laws.Append.{append_none, append_same, room_same}
use Rattle.sheet_lines.proofs.Laws.Calls.{open_number_lem, no_number}
use Rattle.sheet_lines.proofs.open_slot.Goals as goal

pub write_spaced-requires-clause-room : goal.write_spaced-requires-clause-room
write_spaced-requires-clause-room c =
    room_same (open_number_lem c.args.slots.now c.args.c c.args.s c.if-slots-c.true) c.requires.room

pub returns-then-slots-c : goal.returns-then-slots-c
returns-then-slots-c c =
    append_same (sym (open_number_lem c.args.slots.now c.args.c c.args.s c.if-slots-c.true)) c.write_spaced.ensures

pub returns-else-slots-c : goal.returns-else-slots-c
returns-else-slots-c c =
    append_same (sym (no_number c.args.slots.now c.args.c c.args.s c.if-slots-c.false)) (append_none _ _)
