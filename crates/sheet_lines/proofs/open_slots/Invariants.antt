-- One slot more is written in each round.
use Rattle.sheet_lines.specs.Append.{Appended}
use Rattle.sheet_lines.specs.Joined.{joined}
use Rattle.sheet_lines.specs.Calls.{open_number}
use Rattle.sheet_lines.proofs.open_slots.Given as goal

abbrev pub invariant-loop-s : goal.invariant-loop-s
invariant-loop-s l = Appended (joined (open_number l.slots l.c) l.s) l.at l.initial.out l.out l.next
