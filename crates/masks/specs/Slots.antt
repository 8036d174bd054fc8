-- The slots of a call as a mask.
use Rattle.std.specs.Prelude.{◌≡◌, List, Bool, ℕ, ◌≤◌, ◌<◌}
use Rattle.tables.specs.Count.{bit}
use Rattle.tables.specs.Masks.{bit_of, Has}
use Rattle.layout.specs.Places.{cause_of}

-- bit s of m is what the test T says of the byte of slot s of call c, for the first n slots
pub record SlotsTested (T : ℕ → Bool → Type 0) (slots : List ℕ) (c n m : ℕ) : Type 0 where
  pub each : (s : ℕ) → s < n → (b : Bool) × T (cause_of slots c s) b × (bit_of m s ≡ bit b)
  pub past : (s : ℕ) → n ≤ s → bit_of m s ≡ 0

-- r has what is in set x and not in set y
pub record SetDifference (x y r : ℕ) : Type 0 where
  pub has : (s : ℕ) → s < 32 → Has x s → (Has y s → ⊥) → Has r s
  pub only : (s : ℕ) → s < 32 → Has r s → Has x s × (Has y s → ⊥)
