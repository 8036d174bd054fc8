-- WHAT A FILE'S SHEET PRINTS OF THE WHOLE BOARD (SCOPE 7.11), and the sheet in its two parts: the lines of the commands, and the ledger whose board the rest shows.
use Rattle.std.specs.Prelude.{◌≡◌, List, [], ◌∷◌, ◌++◌, ℕ, length}
use Rattle.model.specs.declared.command.Decoded.{Decoded}
use Rattle.model.specs.Board.{Board}
use Rattle.model.specs.Tests.{up_from}
use Rattle.model.specs.Ledger.{Ledger, fresh, obey}
use Rattle.model.specs.Sheet.{call_lines, total_line, end_line, file_refusal, read_line, reads_from, sheet_of}

-- the lines of what was read, one for each, and nothing of a board
abbrev pub command_lines : Ledger → List Decoded → List ℕ
command_lines L [] = []
command_lines L (d ∷ ds) =
    let n = file_refusal L d.read d.counts in
    let L' = obey n L d.read d.counts in
    read_line n d.read L.board L'.board ++ command_lines L' ds

-- the ledger after what was read
abbrev pub ledger_from : Ledger → List Decoded → Ledger
ledger_from L [] = L
ledger_from L (d ∷ ds) = ledger_from (obey (file_refusal L d.read d.counts) L d.read d.counts) ds

-- THE SHEET OF AN INPUT whose commands leave the board B: the lines of the commands, those of B's calls, the total, and the last line
pub record Prints (input : List ℕ) (B : Board) (total : ℕ) : Type 0 where
  pub sheet : sheet_of input
      ≡ command_lines fresh (reads_from (length input) input 0) ++ call_lines B (up_from 0 (length B.counts)) ++ total_line total ++ end_line
