-- THE LINES OF THE INPUT: the sheet without its last line, and how far it has come between two rounds.
use Rattle.std.specs.Prelude.{◌≡◌, cond, List, ◌++◌, ℕ, ◌+◌, ◌*◌, ◌≤◌, length, ltb}
use Rattle.model.specs.Ledger.{Ledger, LedgerShape, fresh, up_to_zero}
use Rattle.model.specs.Marks.{RepresentsMarked}
use Rattle.model.specs.Sheet.{refused_line, reads_from, lines_from, input_most}
use Rattle.sheet_lines.specs.Append.{Appended}
use Rattle.sheet_lines.specs.Calls.{calls_and_total}
use Rattle.sheet.specs.declared.advance.Progress.{Progress}
use Rattle.layout.specs.Memory.{MarkedState}
use Rattle.sheet.specs.Bounds.{lines_most, sheet_most}
use Rattle.sheet_lines.specs.Lengths.{line_most}
use Rattle.model.specs.Numbers as refused

-- those of an input that is not too long: of its commands, and then of the board
unfoldable pub file_lines : List ℕ → List ℕ
file_lines input = lines_from fresh (reads_from (length input) input 0)

-- those of any input: one that is too long has its refusal's line alone (SCOPE 7.5)
unfoldable pub input_lines : List ℕ → List ℕ
input_lines input = cond (ltb input_most (length input)) (refused_line 0 refused.file_length) (file_lines input)

-- those of the board, by the counts of its calls and the slot bytes
unfoldable pub counted_lines : List ℕ → List ℕ → List ℕ
counted_lines counts slots = calls_and_total (length (up_to_zero counts)) slots

-- the input is not too long, and the buffer has room for the longest sheet
pub record Fits (input out : List ℕ) : Type 0 where
  pub input_fits : length input ≤ input_most
  pub room : sheet_most ≤ length out

-- lines stand at the buffer's start, with room for the last one behind them
pub record Lined (bytes old new : List ℕ) (r : ℕ) : Type 0 where
  pub appended : Appended bytes 0 old new r
  pub most : r ≤ lines_most

-- HOW FAR THE SHEET HAS COME: the state is a ledger's, and the lines that are written and those of what is still to be read, at most so many commands, are all
pub record Reached (input : List ℕ) (p : Progress) (s : MarkedState) (old new : List ℕ) : Type 0 where
  pub ledger : Ledger
  pub shape : LedgerShape ledger
  pub represents : RepresentsMarked ledger s
  pub lines : List ℕ
  pub appended : Appended lines 0 old new p.written
  pub short : p.written ≤ line_most * p.read
  pub inside : p.read ≤ length input
  pub most : ℕ
  pub enough : length input ≤ p.read + most
  pub all : lines ++ lines_from ledger (reads_from most input p.read) ≡ file_lines input
