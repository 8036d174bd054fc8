-- THE LINE OF A COMMAND (SCOPE 7.2), read off its answer.
use Rattle.std.specs.Prelude.{List, ℕ, ◌+◌, ◌≤◌, Ok, Err}
use Rattle.model.specs.declared.command.Command.{Command}
use Rattle.model.specs.Commands.{kind_of}
use Rattle.model.specs.Promise.{Answer}
use Rattle.model.specs.Refusals.{number}
use Rattle.model.specs.Sheet.{accepted_line, refused_line}
use Rattle.sheet_lines.specs.Append.{Appended}
use Rattle.layout.specs.Sizes.{slots_length}
use Rattle.sheet_lines.specs.Lengths.{line_most}

-- the line that an answer gives
abbrev pub answer_line : Command → Answer → List ℕ
answer_line c (Ok r) = accepted_line (kind_of c) r.struck r.reopened
answer_line c (Err e) = refused_line (kind_of c) (number e)

-- S and R of an answer
abbrev pub report_struck : Answer → ℕ
report_struck (Ok r) = r.struck
report_struck (Err e) = 0

abbrev pub report_reopened : Answer → ℕ
report_reopened (Ok r) = r.reopened
report_reopened (Err e) = 0

-- an answer whose line is short: there are 1,024 slots, and none is struck and reopened at once
pub record ShortAnswer (given : Answer) : Type 0 where
  pub together : report_struck given + report_reopened given ≤ slots_length

-- one line is appended: none of a command is longer than 12 bytes
pub record LineAppended (bytes : List ℕ) (place : ℕ) (old new : List ℕ) (r : ℕ) : Type 0 where
  pub appended : Appended bytes place old new r
  pub short : r ≤ place + line_most
