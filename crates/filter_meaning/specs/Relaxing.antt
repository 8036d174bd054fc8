-- THE VISITED SLOTS OF A RELAXATION, on a board.
use Rattle.std.specs.Prelude.{List, Bool, false, ◌&&◌, ℕ, get_or, ltb}
use Rattle.filter_propagate.specs.Queue.{IsFlagged}
use Rattle.layout.specs.Places.{slot_place}

-- slot s of call c is visited
abbrev pub Visited : List Bool → ℕ → ℕ → Type 0
Visited visited c s = IsFlagged visited (slot_place c s)

-- the test of it. A slot past the 32 of its call has the byte of another call, and is none
abbrev pub visited_test : List Bool → ℕ → ℕ → Bool
visited_test visited c s = ltb s 32 && get_or visited (slot_place c s) false
