-- Sets of small numbers as masks: number s is in the set where bit s of the mask is 1. A mask is also a table of flags, so that what is stated of tables holds of
-- masks too.
use Rattle.std.specs.Prelude.{◌≡◌, List, [], ◌∷◌, ◌++◌, Bool, ℕ, zero, suc, ◌/◌, ◌%◌, ◌<◌, eqb}

-- bit s of m, which weighs 2 to the s
unfoldable pub bit_of : ℕ → ℕ → ℕ
bit_of m zero = m % 2
bit_of m (suc s) = bit_of (m / 2) s

-- number s is in the set of mask m
abbrev pub Has : ℕ → ℕ → Type 0
Has m s = bit_of m s ≡ 1

-- m is the mask of the numbers below n with P
pub record IsMask (P : ℕ → Type 0) (n m : ℕ) : Type 0 where
  pub has : (s : ℕ) → s < n → P s → Has m s
  pub only : (s : ℕ) → Has m s → (s < n) × P s

-- the first n bits of m as flags
unfoldable pub flags_of : ℕ → ℕ → List Bool
flags_of zero m = []
flags_of (suc n) m = eqb (m % 2) 1 ∷ flags_of n (m / 2)

-- the first n bits of each mask of a table, one mask after another
unfoldable pub all_flags : ℕ → List ℕ → List Bool
all_flags n [] = []
all_flags n (m ∷ ms) = flags_of n m ++ all_flags n ms
