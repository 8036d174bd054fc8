-- The smallest set that has a seed and, with each member, everything that a relation leads to from it.
use Rattle.std.specs.Prelude.{ℕ}

pub data Reach (P : ℕ → ℕ → Type 0) (S : ℕ → Type 0) : ℕ → Type 0 where
  seed : {j : ℕ} → S j → Reach P S j
  joins : {i j : ℕ} → Reach P S i → P i j → Reach P S j
