-- A RULE'S COLUMNS IN WORDS: a byte for each column, the first as the lowest, so that a row and a plan's slots are compared at once. A column that does not count has
-- the byte 0 in what is compared.
use Rattle.std.specs.Prelude.{◌≡◌, Bool, true, false, not, ◌&&◌, cond, List, ℕ, ◌+◌, ◌*◌, ◌<◌, ◌≤◌, length, get_or, T, eqb, ltb}
use Rattle.std.specs.Int.Bits.{bit_and}
use Rattle.layout.specs.declared.value.Heads.{Heads}
use Rattle.layout.specs.Places.{row_start, columns_of, call_of, cancelled?}
use Rattle.masks.specs.Columns.{word_at}

-- THE CALL OF COLUMN k OF RULE p, and 255 where the column does not count: it is none of the rule's, or its call is cancelled
unfoldable pub column_call : Heads → List ℕ → ℕ → ℕ → ℕ
column_call heads slots p k = cond (ltb k (columns_of heads.arity p) && not (cancelled? slots (call_of heads.scope p k))) (call_of heads.scope p k) 255

pub record ColumnCalls (heads : Heads) (slots : List ℕ) (p : ℕ) (calls : List ℕ) : Type 0 where
  pub size : length calls ≡ 4
  pub each : (k : ℕ) → k < 4 → get_or calls k 0 ≡ column_call heads slots p k

-- what stands for a column in a word, by its call: all bits, or the plan's slot; 0 where the column does not count
abbrev pub mask_byte : ℕ → ℕ
mask_byte call = cond (ltb call 32) 255 0

abbrev pub plan_byte : List ℕ → ℕ → ℕ
plan_byte plan call = cond (ltb call 32) (get_or plan call 0) 0

-- r is the word of four calls, a byte for each
pub record IsWord (calls : List ℕ) (byte : ℕ → ℕ) (r : ℕ) : Type 0 where
  pub is : r ≡ byte (get_or calls 0 0) + 256 * byte (get_or calls 1 0) + 65536 * byte (get_or calls 2 0) + 16777216 * byte (get_or calls 3 0)
  pub small : (k : ℕ) → k < 4 → byte (get_or calls k 0) < 256

-- r says whether a number from one on and below another passes a test
pub record SomeBetween (f : ℕ → Bool) (from to : ℕ) (r : Bool) : Type 0 where
  pub found : r ≡ true → (w : ℕ) × (from ≤ w) × (w < to) × T (f w)
  pub none : r ≡ false → (w : ℕ) → from ≤ w → w < to → f w ≡ false

-- row w of rule p is the wanted word in the columns of the mask
abbrev pub row_matches? : List ℕ → ℕ → ℕ → ℕ → ℕ → Bool
row_matches? rows p mask wanted w = eqb (bit_and (word_at rows (row_start p w)) mask) wanted
