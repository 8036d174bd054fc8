-- ROWS LISTED IN RISING ORDER: every place has a row, and the rows of the places before n that pass a test are listed, the lowest place first.
use Rattle.std.specs.Prelude.{Bool, cond, List, [], ◌∷◌, ◌++◌, ℕ, zero, suc}

abbrev pub rows_to : (ℕ → List ℕ) → ℕ → (ℕ → Bool) → List (List ℕ)
rows_to row_of zero f = []
rows_to row_of (suc i) f = rows_to row_of i f ++ cond (f i) (row_of i ∷ []) []
