-- THE LINES OF THE BOARD, read off the slot bytes: of its calls, and of the whole. On a state that is a ledger's they are the definition's, which reads them off
-- the filter.
-- Assumes nothing.
use Rattle.std.specs.Prelude.{cond, List, [], ◌∷◌, ◌++◌, ℕ, eqb}
use Rattle.model.specs.Tests.{up_from, keep_only}
use Rattle.model.specs.Report.{slot_count, open?}
use Rattle.model.specs.Sheet.{spaced, total_line}
use Rattle.layout.specs.Places.{cause_of, cancelled_byte}
use Rattle.sheet_lines.specs.Append.{all_parts}
use Rattle.sheet_lines.specs.Joined.{joined}
use Rattle.sheet_lines.specs.Lines.{start}

-- the numbers of the open slots of call c, rising. No abbreviation: written out it would double with each slot
unfoldable pub open_numbers : List ℕ → ℕ → List ℕ
open_numbers slots c = keep_only (open? slots c) (up_from 0 32)

-- what stands behind the number of call c: a space and a dash where the byte of its first slot is a cancelled call's, else the numbers of its open slots
unfoldable pub call_slots : List ℕ → ℕ → List ℕ
call_slots slots c = cond (eqb (cause_of slots c 0) cancelled_byte) (32 ∷ 45 ∷ []) (spaced (open_numbers slots c))

-- the parts of the line of call c, and the line
abbrev pub call_parts : List ℕ → ℕ → List (List ℕ)
call_parts slots c = start 99 c ∷ call_slots slots c ∷ (10 ∷ []) ∷ []

unfoldable pub slot_line : List ℕ → ℕ → List ℕ
slot_line slots c = all_parts (call_parts slots c)

-- slot s's number with a space before it, where the slot is open
unfoldable pub open_number : List ℕ → ℕ → ℕ → List ℕ
open_number slots c s = cond (open? slots c s) (spaced (s ∷ [])) []

-- the lines of a board of n calls, none where there is no call
abbrev pub calls_and_total : ℕ → List ℕ → List ℕ
calls_and_total n slots = cond (eqb n 0) [] (joined (slot_line slots) n ++ total_line (slot_count (open? slots)))
