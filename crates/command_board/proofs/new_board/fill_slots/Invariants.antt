-- Each round writes the next byte; after the last all are written.
use Rattle.command_board.specs.Made.{slot_byte}
use Rattle.tables.specs.Laws.Fill.{FilledTo}
use Rattle.command_board.proofs.new_board.fill_slots.Given as goal

abbrev pub invariant-loop-place : goal.invariant-loop-place
invariant-loop-place l = FilledTo (slot_byte l.counts) l.place l.initial.slots l.slots
