-- One call's line more is written in each round.
use Rattle.sheet_lines.specs.Append.{Appended}
use Rattle.sheet_lines.specs.Joined.{joined}
use Rattle.sheet_lines.specs.Calls.{slot_line}
use Rattle.sheet_lines.proofs.call_lines.Given as goal

abbrev pub invariant-loop-c : goal.invariant-loop-c
invariant-loop-c l = Appended (joined (slot_line l.slots) l.c) l.at l.initial.out l.out l.next
