-- What a store does to the number of entries that pass a test. Assumes nothing.
use Rattle.std.specs.Prelude.{◌≡◌, refl, List, [], ◌∷◌, ◌++◌, Bool, true, false, ℕ, zero, suc, ◌+◌, ◌≤◌, ◌<◌, length, get_or, set}
use Rattle.std.proofs.Common.{arith}
use Rattle.tables.specs.Count.{bit, count}

pub bit_le : (b : Bool) → bit b ≤ 1
bit_le true = omega arith
bit_le false = omega arith

module _ {A : Type 0} (f : A → Bool) where
  pub count_le : (l : List A) → count f l ≤ length l
  count_le [] = omega arith
  count_le (x ∷ xs) = omega (arith, count_le xs, bit_le (f x))

  -- of one table behind another
  pub count_append : (a b : List A) → count f (a ++ b) ≡ count f a + count f b
  count_append [] b = omega arith
  count_append (x ∷ a) b = omega (arith, count_append a b)

  -- a store takes the entry that was from the count and adds the one that is
  pub count_set : (d v : A) (l : List A) (i : ℕ) → i < length l → count f (set l i v) + bit (f (get_or l i d)) ≡ count f l + bit (f v)
  count_set d v [] i h = absurd (omega arith)
  count_set d v (x ∷ xs) zero h = omega arith
  count_set d v (x ∷ xs) (suc i) h = omega (arith, count_set d v xs i (omega arith))

-- where no entry passes, there is none
pub count_clear : (l : List Bool) → ((j : ℕ) → get_or l j false ≡ true → ⊥) → count (λ (b : Bool). b) l ≡ 0
count_clear [] out = refl
count_clear (true ∷ l) out = absurd (out 0 refl)
count_clear (false ∷ l) out = omega (arith, count_clear l (λ j. out (suc j)))
