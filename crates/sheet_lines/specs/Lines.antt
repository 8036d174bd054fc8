-- THE PARTS OF A LINE, in the order in which they are written. Assumes nothing.
use Rattle.std.specs.Prelude.{List, [], ◌∷◌, ℕ}
use Rattle.model.specs.Sheet.{decimal, spaced}

-- a line's letter and its first number
abbrev pub start : ℕ → ℕ → List ℕ
start letter n = letter ∷ spaced (n ∷ [])

-- a space and the number's decimal
abbrev pub spaced_parts : ℕ → List (List ℕ)
spaced_parts n = (32 ∷ []) ∷ decimal n ∷ []

-- a line is its start, its other numbers and byte 10
abbrev pub line_parts : ℕ → ℕ → List ℕ → List (List ℕ)
line_parts letter n ns = start letter n ∷ spaced ns ∷ (10 ∷ []) ∷ []

abbrev pub accepted_parts : ℕ → ℕ → ℕ → List (List ℕ)
accepted_parts k s r = start 97 k ∷ spaced (s ∷ []) ∷ spaced (r ∷ []) ∷ (10 ∷ []) ∷ []

abbrev pub total_parts : ℕ → List (List ℕ)
total_parts total = start 116 total ∷ (10 ∷ []) ∷ []
