-- The law of a loop that writes a buffer from its beginning, byte n being f n: a sweep that starts at 0.
use Rattle.std.specs.Prelude.{◌≡◌, List, ℕ, ◌+◌, ◌<◌, length, get_or, set}
use Rattle.std.proofs.Common.{arith}
use Rattle.tables.specs.Sweep.{Swept}
use Rattle.tables.specs.Laws.Sweep.{one_set, swept_none, swept_more}

module _ (f : ℕ → ℕ) where
  -- the first n bytes are written, and the others are as they were
  abbrev pub FilledTo : ℕ → List ℕ → List ℕ → Type 0
  FilledTo n old new = Swept 0 (λ i x y. y ≡ f i) 0 n old new

  pub filled_none : (l : List ℕ) → FilledTo 0 l l
  filled_none l = swept_none 0 _ 0 l

  pub filled_more : (n v : ℕ) (old new : List ℕ) → FilledTo n old new → n < length new → v ≡ f n → FilledTo (n + 1) old (set new n v)
  filled_more n v old new w h e =
      let z : 0 + n ≡ n = omega arith in
      swept_more 0 _ 0 n old new (set new n v) w (rw z at (one_set 0 (λ i x y. y ≡ f i) 0 n new v (omega arith) e))

  pub filled_at : (n : ℕ) (old new : List ℕ) → FilledTo n old new → (j : ℕ) → j < n → get_or new j 0 ≡ f j
  filled_at n old new w j h = let z : 0 + j ≡ j = omega arith in rw z at (w.inside j h)
