-- PAIRS LISTED AS ROW BYTES: all counted, the first 64 written.
use Rattle.std.specs.Prelude.{◌≡◌, Bool, cond, List, [], ℕ, ◌+◌, ◌*◌, ◌<◌, length, get_or, set, ltb}
use Rattle.model.specs.Gaps.{pairs_to}
use Rattle.layout.specs.Places.{own_place}

-- the row bytes with a pair as row w; as they are where there is no such row
abbrev pub with_pair : List ℕ → ℕ → ℕ → ℕ → List ℕ
with_pair rows w a b = cond (ltb w 64) (set (set rows (4 * w) a) (4 * w + 1) b) rows

-- THESE ROWS ARE LISTED: 255 past the columns of a row and past the last
pub record Listed (pairs : List (List ℕ)) (rows : List ℕ) (count : ℕ) : Type 0 where
  pub size : length rows ≡ 256
  pub count_is : count ≡ length pairs
  pub bytes : (w k : ℕ) → w < 64 → k < 4 → get_or rows (own_place w k) 0 ≡ get_or (get_or pairs w []) k 255

-- those before place i that pass a test
pub record ListedTo (f : ℕ → ℕ → Bool) (i : ℕ) (rows : List ℕ) (count : ℕ) : Type 0 where
  pub listed : Listed (pairs_to i f) rows count
