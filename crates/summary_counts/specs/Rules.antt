-- THE COLUMNS ON EACH CALL, in an array of 32 numbers: what one column adds to it, what a rule adds, and what is there after all 64 rules.
use Rattle.std.specs.Prelude.{◌≡◌, cond, List, ℕ, ◌+◌, ◌*◌, ◌<◌, ◌≤◌, length, get_or}
use Rattle.layout.specs.declared.value.Heads.{Heads}
use Rattle.model.specs.Tests.{count_below}
use Rattle.summary_counts.specs.Counted.{column_on?, columns_on}

-- 32 numbers, none of them above m
pub record AtMost (m : ℕ) (on : List ℕ) : Type 0 where
  pub size : length on ≡ 32
  pub each : (c : ℕ) → c < 32 → get_or on c 0 ≤ m

-- column k of rule q counts for its call
pub record ColumnAdded (scope : List ℕ) (q n k : ℕ) (old new : List ℕ) : Type 0 where
  pub size : length new ≡ length old
  pub each : (c : ℕ) → c < 32 → get_or new c 0 ≡ get_or old c 0 + cond (column_on? scope q n c k) 1 0

-- the same for its first m columns
pub record ColumnsAdded (scope : List ℕ) (q n m : ℕ) (old new : List ℕ) : Type 0 where
  pub size : length new ≡ length old
  pub each : (c : ℕ) → c < 32 → get_or new c 0 ≡ get_or old c 0 + count_below m (column_on? scope q n c)

-- the columns of the first q rules
pub record ColumnsTo (h : Heads) (q : ℕ) (on : List ℕ) : Type 0 where
  pub size : length on ≡ 32
  pub each : (c : ℕ) → c < 32 → get_or on c 0 ≡ columns_on h (4 * q) c

-- the columns of all rules
abbrev pub Columns : Heads → List ℕ → Type 0
Columns h on = ColumnsTo h 64 on
