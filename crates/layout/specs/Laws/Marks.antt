-- PARTS OF A BUFFER that are written and read: what is written is read there, and elsewhere what was there before. So a mark holds what was kept under its name, and the
-- other mark what it held. Assumes nothing.
use Rattle.std.specs.Prelude.{◌≡◌, List, ◌++◌, ◌⊎◌, ℕ, ◌+◌, ◌-◌, ◌≤◌, ◌<◌, length, get_or, take, drop}
use Rattle.std.proofs.Common.{sym, ap, ◌∙◌, inl, inr, ⊎_elim, arith, length-append, length-take, length-drop, length-take-le, get_or-take, get_or-drop, get_or-append-add, ext_get_or}
use Rattle.std.proofs.Math.ListN.{get_or-append}
use Rattle.layout.specs.Bounds.{Sizes}
use Rattle.layout.specs.Marks.{mark_start, killers_start, slots_start, part_from, with_part, marked_rows, marked_killers, marked_slots, with_mark}
use Rattle.layout.specs.Sizes.{killers_length, rows_length, mark_length, marks_length}

module _ (l : List ℕ) (at : ℕ) (xs : List ℕ) (fits : at + length xs ≤ length l) where
  front : length (take at l) ≡ at
  front = length-take-le at l (omega arith)

  abbrev behind : List ℕ
  behind = drop (length xs) (drop at l)

  pub written_size : length (with_part l at xs) ≡ length l
  written_size =
      omega (arith, length-append (take at l) (xs ++ behind), front, length-append xs behind, length-drop (length xs) (drop at l), length-drop at l)

  -- byte by byte: before the part, in it, and behind it
  below : (j : ℕ) → j < at → get_or (with_part l at xs) j 0 ≡ get_or l j 0
  below j h = get_or-append (take at l) (xs ++ behind) 0 j (omega (arith, front)) ∙ get_or-take at l j 0 h

  from_start : (j : ℕ) → get_or (with_part l at xs) (at + j) 0 ≡ get_or (xs ++ behind) j 0
  from_start j =
      let e : at + j ≡ length (take at l) + j = omega (arith, front) in
      ap (λ (i : ℕ). get_or (with_part l at xs) i 0) e ∙ get_or-append-add (take at l) (xs ++ behind) j 0

  within : (j : ℕ) → j < length xs → get_or (with_part l at xs) (at + j) 0 ≡ get_or xs j 0
  within j h = from_start j ∙ get_or-append xs behind 0 j h

  above : (j : ℕ) → at + length xs ≤ j → get_or (with_part l at xs) j 0 ≡ get_or l j 0
  above j h =
      let k = j - at - length xs in
      let e : at + (length xs + k) ≡ j = omega arith in
      ap (λ (i : ℕ). get_or (with_part l at xs) i 0) (sym e)
      ∙ from_start (length xs + k)
      ∙ get_or-append-add xs behind k 0
      ∙ get_or-drop (length xs) (drop at l) k 0
      ∙ get_or-drop at l (length xs + k) 0
      ∙ ap (λ (i : ℕ). get_or l i 0) e

  -- WHAT IS WRITTEN IS READ THERE
  pub read_written : part_from (with_part l at xs) at (length xs) ≡ xs
  read_written =
      ext_get_or 0 (part_from (with_part l at xs) at (length xs)) xs size
      (λ j h. get_or-take (length xs) (drop at (with_part l at xs)) j 0 (omega (arith, size)) ∙ get_or-drop at (with_part l at xs) j 0 ∙ within j (omega (arith, size)))
    where
      size : length (part_from (with_part l at xs) at (length xs)) ≡ length xs
      size = length-take-le (length xs) (drop at (with_part l at xs)) (omega (arith, length-drop at (with_part l at xs), written_size))

  -- AND ELSEWHERE WHAT WAS THERE
  pub read_other : (from n : ℕ) → (from + n ≤ at) ⊎ (at + length xs ≤ from) → part_from (with_part l at xs) from n ≡ part_from l from n
  read_other from n apart = ext_get_or 0 (part_from (with_part l at xs) from n) (part_from l from n) same byte
    where
      same : length (part_from (with_part l at xs) from n) ≡ length (part_from l from n)
      same =
          omega (arith, length-take n (drop from (with_part l at xs)), length-take n (drop from l), length-drop from (with_part l at xs), length-drop from l, written_size)

      byte : (j : ℕ) → j < length (part_from (with_part l at xs) from n) → get_or (part_from (with_part l at xs) from n) j 0 ≡ get_or (part_from l from n) j 0
      byte j h =
          let few : j < n = omega (arith, length-take n (drop from (with_part l at xs))) in
          get_or-take n (drop from (with_part l at xs)) j 0 few
          ∙ get_or-drop from (with_part l at xs) j 0
          ∙ ⊎_elim (λ before. below (from + j) (omega arith)) (λ after. above (from + j) (omega arith)) apart
          ∙ sym (get_or-drop from l j 0)
          ∙ sym (get_or-take n (drop from l) j 0 few)

-- THE MARKS WITH A BOARD'S BUFFERS under a name
module _ (marks : List ℕ) (name : ℕ) (rows killers slots : List ℕ) (size : length marks ≡ marks_length) (known : name < 2) (sizes : Sizes rows killers slots) where
  abbrev one : List ℕ
  one = with_part marks (mark_start name) rows

  abbrev two : List ℕ
  two = with_part one (killers_start name) killers

  fits_one : mark_start name + length rows ≤ length marks
  fits_one = omega (arith, sizes.rows_size)

  size_one : length one ≡ marks_length
  size_one = written_size marks (mark_start name) rows fits_one ∙ size

  fits_two : killers_start name + length killers ≤ length one
  fits_two = omega (arith, size_one, sizes.killers_size)

  size_two : length two ≡ marks_length
  size_two = written_size one (killers_start name) killers fits_two ∙ size_one

  fits_three : slots_start name + length slots ≤ length two
  fits_three = omega (arith, size_two, sizes.slots_size)

  pub with_mark_size : length (with_mark marks name rows killers slots) ≡ marks_length
  with_mark_size = written_size two (slots_start name) slots fits_three ∙ size_two

  -- it holds them
  pub kept_slots : marked_slots (with_mark marks name rows killers slots) name ≡ slots
  kept_slots =
      let e = sizes.slots_size in
      ap (λ (n : ℕ). part_from (with_mark marks name rows killers slots) (slots_start name) n) (sym e) ∙ read_written two (slots_start name) slots fits_three

  pub kept_killers : marked_killers (with_mark marks name rows killers slots) name ≡ killers
  kept_killers =
      let e = sizes.killers_size in
      read_other two (slots_start name) slots fits_three (killers_start name) killers_length (inl (omega arith))
      ∙ ap (λ (n : ℕ). part_from two (killers_start name) n) (sym e)
      ∙ read_written one (killers_start name) killers fits_two

  pub kept_rows : marked_rows (with_mark marks name rows killers slots) name ≡ rows
  kept_rows =
      let e = sizes.rows_size in
      read_other two (slots_start name) slots fits_three (mark_start name) rows_length (inl (omega arith))
      ∙ read_other one (killers_start name) killers fits_two (mark_start name) rows_length (inl (omega arith))
      ∙ ap (λ (n : ℕ). part_from one (mark_start name) n) (sym e)
      ∙ read_written marks (mark_start name) rows fits_one

  -- and every part outside of it is as it was
  pub outside_kept : (from n : ℕ) → (from + n ≤ mark_start name) ⊎ (mark_start name + mark_length ≤ from)
      → part_from (with_mark marks name rows killers slots) from n ≡ part_from marks from n
  outside_kept from n apart =
      let r = sizes.rows_size in
      let k = sizes.killers_size in
      let s = sizes.slots_size in
      read_other two (slots_start name) slots fits_three from n (⊎_elim (λ before. inl (omega arith)) (λ after. inr (omega arith)) apart)
      ∙ read_other one (killers_start name) killers fits_two from n (⊎_elim (λ before. inl (omega arith)) (λ after. inr (omega arith)) apart)
      ∙ read_other marks (mark_start name) rows fits_one from n (⊎_elim (λ before. inl (omega arith)) (λ after. inr (omega arith)) apart)
