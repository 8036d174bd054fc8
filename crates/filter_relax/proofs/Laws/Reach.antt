-- A larger relation reaches more, and a closed set has all that is reached. Assumes nothing.
use Rattle.std.specs.Prelude.{ℕ}
use Rattle.filter_relax.specs.Reach.{Reach, seed, joins}

-- a larger relation reaches more, and from a seed that is reached nothing new is
pub reach_join : {P P' : ℕ → ℕ → Type 0} {S S' : ℕ → Type 0} → ((i j : ℕ) → P i j → P' i j) → ((j : ℕ) → S j → Reach P' S' j) → {j : ℕ} → Reach P S j → Reach P' S' j
reach_join f g (seed {j} s) = g j s
reach_join f g (joins {i} {j} r p) = joins (reach_join f g r) (f i j p)

-- a set that has the seed and is closed under the relation has all of it
pub reach_in : {P : ℕ → ℕ → Type 0} {S : ℕ → Type 0} (Z : ℕ → Type 0) → ((j : ℕ) → S j → Z j) → ((i j : ℕ) → P i j → Z i → Z j) → {j : ℕ} → Reach P S j → Z j
reach_in Z s z (seed {j} x) = s j x
reach_in Z s z (joins {i} {j} r p) = z i j p (reach_in Z s z r)
