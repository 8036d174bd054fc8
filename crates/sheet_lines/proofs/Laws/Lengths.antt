-- How long the lines are. Assumes nothing.
use Rattle.std.specs.Prelude.{◌≡◌, refl, Bool, true, false, cond, List, [], ◌∷◌, ◌++◌, ℕ, ◌+◌, ◌*◌, ◌/◌, ◌%◌, ◌≤◌, ◌<◌, length, eqb, leb}
use Rattle.std.proofs.Common.{⊎_elim, arith, length-append}
use Rattle.std.proofs.lemmas.Bool.{lt-leb}
use Rattle.model.specs.Tests.{up_from, keep_only}
use Rattle.model.specs.Report.{open?}
use Rattle.model.specs.Sheet.{decimal, spaced, line, accepted_line, refused_line, total_line}
use Rattle.sheet_lines.specs.Joined.{joined}
use Rattle.sheet_lines.specs.Digits.{digit_if}
use Rattle.sheet_lines.specs.Calls.{open_numbers, call_slots, slot_line}
use Rattle.sheet_lines.specs.Lines.{start}
use Rattle.sheet_lines.proofs.Laws.Digits.{decimal_parts_lem}
use Rattle.sheet_lines.proofs.Laws.Joined.{joined_most}
use Rattle.sheet_lines.specs.Lengths.{reaches, call_line_most, decimal_end, line_most, total_line_most, board_lines_most}
use Rattle.layout.specs.Places.{cause_of, cancelled_byte}
use Rattle.layout.specs.Sizes.{slots_length}
use Rattle.tables.specs.Laws.Facts.{lt_or_le}

pub reaches_most : (n w : ℕ) → reaches n w ≤ 1
reaches_most n w = go (leb w n)
  where
    go : (b : Bool) → cond b 1 0 ≤ 1
    go true = omega arith
    go false = omega arith

digit_length : (n w : ℕ) → length (digit_if n w) ≡ reaches n w
digit_length n w = go (leb w n)
  where
    go : (b : Bool) → length (cond b ((48 + n / w % 10) ∷ []) []) ≡ cond b 1 0
    go true = refl
    go false = refl

pub reaches_none : (n w : ℕ) → n < w → reaches n w ≡ 0
reaches_none n w h = rw (lt-leb w n h) refl

-- a number has one digit, and one more for each weight that it reaches
pub decimal_length : (n : ℕ) → n < decimal_end → length (decimal n) ≡ 1 + reaches n 10 + reaches n 100 + reaches n 1000
decimal_length n h =
    rw (← (decimal_parts_lem n h).same) (simp length-append (omega (arith, digit_length n 10, digit_length n 100, digit_length n 1000)))

module _ (n : ℕ) where
  pub one_digit : n < 10 → length (decimal n) ≡ 1
  one_digit h = omega (arith, decimal_length n (omega arith), reaches_none n 10 h, reaches_none n 100 (omega arith), reaches_none n 1000 (omega arith))

  pub two_digits : n < 100 → length (decimal n) ≤ 2
  two_digits h = omega (arith, decimal_length n (omega arith), reaches_most n 10, reaches_none n 100 h, reaches_none n 1000 (omega arith))

  pub three_digits : n < 1000 → length (decimal n) ≤ 3
  three_digits h = omega (arith, decimal_length n (omega arith), reaches_most n 10, reaches_most n 100, reaches_none n 1000 h)

  pub four_digits : n < decimal_end → length (decimal n) ≤ 4
  four_digits h = omega (arith, decimal_length n h, reaches_most n 10, reaches_most n 100, reaches_most n 1000)

pub spaced_length : (n : ℕ) (ns : List ℕ) → length (spaced (n ∷ ns)) ≡ 1 + length (decimal n) + length (spaced ns)
spaced_length n ns = omega (arith, length-append (decimal n) (spaced ns))

pub line_length : (letter : ℕ) (ns : List ℕ) → length (line letter ns) ≡ 2 + length (spaced ns)
line_length letter ns = omega (arith, length-append (spaced ns) (10 ∷ []))

-- the line of an accepted command: S and R together are no more than 1,024 slots
pub accepted_most : (k s r : ℕ) → k < 10 → s + r ≤ slots_length → length (accepted_line k s r) ≤ line_most
accepted_most k s r lk few =
    omega (
      arith,
      line_length 97 (k ∷ s ∷ r ∷ []),
      spaced_length k (s ∷ r ∷ []),
      spaced_length s (r ∷ []),
      spaced_length r [],
      one_digit k lk,
      both,
    )
  where
    both : length (decimal s) + length (decimal r) ≤ 6
    both = ⊎_elim small (λ (h : 1000 ≤ s). omega (arith, four_digits s (omega arith), two_digits r (omega arith))) (lt_or_le s 1000)
      where
        small : s < 1000 → length (decimal s) + length (decimal r) ≤ 6
        small h =
            ⊎_elim (λ (l : r < 1000). omega (arith, three_digits s h, three_digits r l)) (λ (l : 1000 ≤ r). omega (arith, two_digits s (omega arith), four_digits r (omega arith)))
            (lt_or_le r 1000)

-- the line of a refused one: a byte for its kind, and one for the refusal's number
pub refused_most : (k n : ℕ) → k ≤ 255 → n ≤ 255 → length (refused_line k n) ≤ line_most
refused_most k n lk ln =
    omega (
      arith,
      line_length 114 (k ∷ n ∷ []),
      spaced_length k (n ∷ []),
      spaced_length n [],
      three_digits k (omega arith),
      three_digits n (omega arith),
    )

-- the line of a call: at most 91 bytes, with all 32 slots open, whatever the slot bytes are
keep_shorter : (f : ℕ → Bool) (ns : List ℕ) → length (spaced (keep_only f ns)) ≤ length (spaced ns)
keep_shorter f [] = omega arith
keep_shorter f (n ∷ ns) = go (f n) (keep_shorter f ns)
  where
    go : (b : Bool) → length (spaced (keep_only f ns)) ≤ length (spaced ns) → length (spaced (cond b (n ∷ keep_only f ns) (keep_only f ns))) ≤ length (spaced (n ∷ ns))
    go true rest = omega (arith, spaced_length n (keep_only f ns), spaced_length n ns)
    go false rest = omega (arith, spaced_length n ns)

-- the 32 numbers have 54 digits
numbers_most : (slots : List ℕ) (c : ℕ) → length (spaced (open_numbers slots c)) ≤ 86
unfolding open_numbers
numbers_most slots c = keep_shorter (open? slots c) (up_from 0 32)

slots_most : (slots : List ℕ) (c : ℕ) → length (call_slots slots c) ≤ 86
unfolding call_slots
slots_most slots c = go (eqb (cause_of slots c 0) cancelled_byte)
  where
    go : (b : Bool) → length (cond b (32 ∷ 45 ∷ []) (spaced (open_numbers slots c))) ≤ 86
    go true = omega arith
    go false = numbers_most slots c

slot_line_most : (slots : List ℕ) (c : ℕ) → c < 32 → length (slot_line slots c) ≤ call_line_most
unfolding slot_line
slot_line_most slots c h =
    let behind = call_slots slots c in
    omega (
      arith,
      length-append (start 99 c) (behind ++ (10 ∷ [])),
      length-append behind (10 ∷ []),
      spaced_length c [],
      two_digits c (omega arith),
      slots_most slots c,
    )

pub call_lines_most_lem : (slots : List ℕ) (n : ℕ) → n ≤ 32 → length (joined (slot_line slots) n) ≤ call_line_most * n
call_lines_most_lem slots n h = joined_most (slot_line slots) call_line_most n (λ c lc. slot_line_most slots c (omega arith))

-- the line of the whole board: a letter, a space, four digits and byte 10
pub total_most : (total : ℕ) → total < decimal_end → length (total_line total) ≤ total_line_most
total_most total h = omega (arith, line_length 116 (total ∷ []), spaced_length total [], four_digits total h)

-- the lines of the board: of at most 32 calls, and of the whole
pub whole_most : (slots : List ℕ) (n total : ℕ) → n ≤ 32 → total < decimal_end → length (joined (slot_line slots) n) + length (total_line total) ≤ board_lines_most
whole_most slots n total h small = omega (arith, call_lines_most_lem slots n h, total_most total small)
