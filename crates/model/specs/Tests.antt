-- TESTS OVER NUMBERS, which compute: some, every, how many, the numbers below a bound.
use Rattle.std.specs.Prelude.{Bool, true, false, ◌&&◌, ◌||◌, cond, List, [], ◌∷◌, ℕ, zero, suc, ◌+◌, eqb}
use Rattle.std.proofs.Math.Option.{Option, none, some}

-- the test f passes at some number below n; at each of them; and how often
abbrev pub some? : ℕ → (ℕ → Bool) → Bool
some? zero f = false
some? (suc n) f = some? n f || f n

abbrev pub every? : ℕ → (ℕ → Bool) → Bool
every? zero f = true
every? (suc n) f = every? n f && f n

abbrev pub count_below : ℕ → (ℕ → Bool) → ℕ
count_below zero f = 0
count_below (suc n) f = count_below n f + cond (f n) 1 0

-- the first number below n at which f passes; n where there is none
abbrev pub first : ℕ → (ℕ → Bool) → ℕ
first zero f = 0
first (suc n) f = cond (some? n f) (first n f) (cond (f n) n (suc n))

-- n numbers from i on, rising
abbrev pub up_from : ℕ → ℕ → List ℕ
up_from i zero = []
up_from i (suc n) = i ∷ up_from (suc i) n

-- s is in the list; the members of the list that pass f
abbrev pub has : List ℕ → ℕ → Bool
has [] s = false
has (x ∷ xs) s = eqb x s || has xs s

abbrev pub keep_only : (ℕ → Bool) → List ℕ → List ℕ
keep_only f [] = []
keep_only f (x ∷ xs) = cond (f x) (x ∷ keep_only f xs) (keep_only f xs)

abbrev pub is_none : {A : Type 0} → Option A → Bool
is_none none = true
is_none (some a) = false
