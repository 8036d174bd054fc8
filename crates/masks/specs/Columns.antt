-- A set of slots for each column of a rule.
use Rattle.std.specs.Prelude.{◌≡◌, cond, ltb, List, ℕ, zero, suc, ◌+◌, ◌*◌, ◌^◌, ◌≤◌, ◌<◌, get_or}
use Rattle.tables.specs.Masks.{Has}
use Rattle.layout.specs.Places.{call_of, slot_of}
use Rattle.masks.specs.declared.columns.Columns.{Columns}

-- the set of column k
abbrev pub column_of : Columns → ℕ → ℕ
column_of x zero = x.c0
column_of x (suc zero) = x.c1
column_of x (suc (suc zero)) = x.c2
column_of x (suc (suc (suc k))) = x.c3

-- slot s is in the set of column k
abbrev pub InColumn : Columns → ℕ → ℕ → Type 0
InColumn x k s = Has (column_of x k) s

-- no slot for any column
abbrev pub no_columns : Columns
no_columns = record { c0 = 0; c1 = 0; c2 = 0; c3 = 0 }

-- the first n columns alone, two at least
abbrev pub first_columns : ℕ → Columns → Columns
first_columns n x = record { c0 = x.c0; c1 = x.c1; c2 = cond (ltb 2 n) x.c2 0; c3 = cond (ltb 3 n) x.c3 0 }

-- nothing past the n columns
abbrev pub PastEmpty : ℕ → Columns → Type 0
PastEmpty n x = (k : ℕ) → n ≤ k → k < 4 → column_of x k ≡ 0

-- the four bytes from i on as one number
abbrev pub word_at : List ℕ → ℕ → ℕ
word_at rows i = get_or rows i 0 + 256 * get_or rows (i + 1) 0 + 65536 * get_or rows (i + 2) 0 + 16777216 * get_or rows (i + 3) 0

-- x has the slots of row w of rule p, a mask of one for each column
pub record RowMasks (rows : List ℕ) (p w : ℕ) (x : Columns) : Type 0 where
  pub each : (k : ℕ) → k < 4 → column_of x k ≡ 2 ^ slot_of rows p w k

-- m is the set of column k's call, of sets for all calls; none past the n columns
pub record ColumnSet (sets scope : List ℕ) (p n k m : ℕ) : Type 0 where
  pub here : k < n → m ≡ get_or sets (call_of scope p k) 0
  pub past : n ≤ k → m ≡ 0

pub record ColumnSets (sets scope : List ℕ) (p n : ℕ) (x : Columns) : Type 0 where
  pub each : (k : ℕ) → k < 4 → ColumnSet sets scope p n k (column_of x k)
