-- THE MARKS' BYTES (SCOPE 2.10): two boards are kept under the names 0 and 1, and their buffers lie in one more that the host lends, one mark behind the other; of each
-- the rows, the killers, then the slots.
use Rattle.std.specs.Prelude.{List, ◌++◌, ℕ, ◌+◌, ◌*◌, length, take, drop}
use Rattle.layout.specs.Sizes.{killers_length, rows_length, slots_length, mark_length}

-- where the three parts of a mark begin
abbrev pub mark_start : ℕ → ℕ
mark_start name = mark_length * name

abbrev pub killers_start : ℕ → ℕ
killers_start name = mark_start name + rows_length

abbrev pub slots_start : ℕ → ℕ
slots_start name = killers_start name + killers_length

-- n bytes from a place on, and a buffer with others from there on
abbrev pub part_from : List ℕ → ℕ → ℕ → List ℕ
part_from l at n = take n (drop at l)

abbrev pub with_part : List ℕ → ℕ → List ℕ → List ℕ
with_part l at xs = take at l ++ (xs ++ drop (length xs) (drop at l))

-- WHAT A MARK HOLDS
abbrev pub marked_rows : List ℕ → ℕ → List ℕ
marked_rows marks name = part_from marks (mark_start name) rows_length

abbrev pub marked_killers : List ℕ → ℕ → List ℕ
marked_killers marks name = part_from marks (killers_start name) killers_length

abbrev pub marked_slots : List ℕ → ℕ → List ℕ
marked_slots marks name = part_from marks (slots_start name) slots_length

-- THE MARKS WITH THESE BUFFERS under a name
abbrev pub with_mark : List ℕ → ℕ → List ℕ → List ℕ → List ℕ → List ℕ
with_mark marks name rows killers slots =
    with_part (with_part (with_part marks (mark_start name) rows) (killers_start name) killers) (slots_start name) slots
