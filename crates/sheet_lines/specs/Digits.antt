-- THE DIGITS OF A NUMBER below 10,000, from the highest that it has. Assumes nothing.
use Rattle.std.specs.Prelude.{cond, List, [], ◌∷◌, ℕ, ◌+◌, ◌/◌, ◌%◌, leb}

-- the digit of weight w, where the number has one there
abbrev pub digit_if : ℕ → ℕ → List ℕ
digit_if n w = cond (leb w n) ((48 + n / w % 10) ∷ []) []

-- the parts of a number's decimal, from the highest weight down
abbrev pub decimal_parts : ℕ → List (List ℕ)
decimal_parts n = digit_if n 1000 ∷ digit_if n 100 ∷ digit_if n 10 ∷ ((48 + n % 10) ∷ []) ∷ []
