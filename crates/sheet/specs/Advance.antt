-- ONE ROUND OVER THE INPUT: what the sheet's definition makes of what is read at a place, and what the code does there.
use Rattle.std.specs.Prelude.{◌≡◌, List, ℕ, ◌+◌, ◌≤◌}
use Rattle.model.specs.declared.command.Command.{Command}
use Rattle.model.specs.declared.command.Read.{Read}
use Rattle.model.specs.declared.command.Read.TheVariants as found
use Rattle.model.specs.declared.command.Decoded.{Decoded}
use Rattle.model.specs.Ledger.{Ledger, LedgerShape, obey}
use Rattle.model.specs.Marks.{RepresentsMarked}
use Rattle.model.specs.Promise.{Answer}
use Rattle.model.specs.Sheet.{file_refusal, read_line}
use Rattle.command_obey.specs.Obeys.{Obeys}
use Rattle.sheet_lines.specs.Append.{Appended}
use Rattle.sheet.specs.declared.advance.Board.{Board}
use Rattle.sheet.specs.declared.advance.Progress.{Progress}
use Rattle.sheet.specs.Line.{answer_line, LineAppended}
use Rattle.layout.specs.Memory.{MarkedState, marked_memory}
use Rattle.sheet_lines.specs.Lengths.{line_most}

-- the state on the board that the commands are obeyed on
abbrev pub state_on : Board → MarkedState
state_on b = marked_memory b.value b.names b.rows b.killers b.slots b.marks

-- the ledger after what was read
unfoldable pub ledger_next : Ledger → Decoded → Ledger
ledger_next L d = obey (file_refusal L d.read d.counts) L d.read d.counts

-- the line of what was read
unfoldable pub line_of : Ledger → Decoded → List ℕ
line_of L d = read_line (file_refusal L d.read d.counts) d.read L.board (ledger_next L d).board

-- the place to read at next; behind a refusal 3 or 4 it is the end (SCOPE 7.3)
abbrev pub place_by : Read → ℕ → ℕ → ℕ
place_by (found.Command c) following end = following
place_by (found.Refused k e) following end = end
place_by found.End following end = end

unfoldable pub next_place : Decoded → ℕ → ℕ
next_place d end = place_by d.read d.next end

-- the state with its marks is some ledger's
pub record Held (s : MarkedState) : Type 0 where
  pub ledger : Ledger
  pub shape : LedgerShape ledger
  pub represents : RepresentsMarked ledger s

-- A ROUND AT A COMMAND, which d has with its counts: it is obeyed, its answer gives the line, and what stands behind it is read next
pub record CommandAdvanced (c : Command) (d : Decoded) (p : Progress) (before : MarkedState) (old : List ℕ) (r : Progress) (after : MarkedState) (new : List ℕ) : Type 0 where
  pub given : Answer
  pub obeys : Obeys before c d.counts given after
  pub line : LineAppended (answer_line c given) p.written old new r.written
  pub read : r.read ≡ d.next

-- A ROUND from p to r, at which d was read, of an input that ends at `end`: whatever ledger the state before is of, the line is that ledger's, and the state after is
-- the next ledger's
pub record Advanced (d : Decoded) (end : ℕ) (p : Progress) (before : MarkedState) (old : List ℕ) (r : Progress) (after : MarkedState) (new : List ℕ) : Type 0 where
  pub read : r.read ≡ next_place d end
  pub short : r.written ≤ p.written + line_most
  pub line : (L : Ledger) → LedgerShape L → RepresentsMarked L before → Appended (line_of L d) p.written old new r.written
  pub represents : (L : Ledger) → LedgerShape L → RepresentsMarked L before → RepresentsMarked (ledger_next L d) after
