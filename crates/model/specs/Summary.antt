-- THE SUMMARY OF A BOARD (SCOPE 2.9, 7.11): each call's open slots, struck slots and rules in force, by the ledger's board alone; and the open slots of the whole
-- board.
use Rattle.std.specs.Prelude.{◌≡◌, Bool, List, [], ◌∷◌, ℕ, ◌+◌, ◌<◌, length, get_or}
use Rattle.layout.specs.declared.summary.Summary.{Summary}
use Rattle.model.specs.Board.{Board}
use Rattle.model.specs.Tests.{count_below, has}
use Rattle.model.specs.Filter.{in?, open_of}
use Rattle.model.specs.Report.{slot_count, closed?}
use Rattle.model.specs.Representation.{rule_at}
use Rattle.layout.specs.Summary.{no_summary}
use Rattle.layout.specs.Sizes.{records_length}

-- the rule in force under the number p is on call c: one of its columns has the call
abbrev pub rule_on? : Board → ℕ → ℕ → Bool
rule_on? B c p = has (rule_at B p).scope c

-- THE RECORD OF A CALL: how many of its slots are open, how many are on the board and not open, and how many rules in force are on it. A cancelled call has none of
-- the first two (SCOPE 2.13)
abbrev pub record_of : Board → ℕ → Summary
record_of B c =
    record { «open» = count_below 32 (in? (open_of B) c); struck = count_below 32 (closed? B (open_of B) c); rules = count_below 64 (rule_on? B c) }

-- A TABLE IS CURRENT: it has 32 records, and each is its call's
pub record Current (B : Board) (table : List Summary) : Type 0 where
  pub size : length table ≡ records_length
  pub each : (c : ℕ) → c < records_length → get_or table c no_summary ≡ record_of B c

-- O, THE OPEN SLOTS OF THE WHOLE BOARD; and the sum of the open slots over the records of a table
abbrev pub open_total : Board → ℕ
open_total B = slot_count (in? (open_of B))

abbrev pub open_sum : List Summary → ℕ
open_sum [] = 0
open_sum (x ∷ xs) = x.«open» + open_sum xs
