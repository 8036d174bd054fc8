-- A number's decimal from its digits. Assumes nothing.
use Rattle.std.specs.Prelude.{◌≡◌, ℕ, ◌/◌, ◌≤◌, ◌<◌}
use Rattle.std.proofs.Common.{⊎_elim, arith, lt-ltb, le-ltb, le-leb}
use Rattle.std.proofs.lemmas.Bool.{lt-leb}
use Rattle.model.specs.Sheet.{decimal}
use Rattle.sheet_lines.specs.Append.{all_parts, Split}
use Rattle.tables.specs.Laws.Facts.{lt_or_le}
use Rattle.sheet_lines.specs.Digits.{decimal_parts}
use Rattle.sheet_lines.specs.Lengths.{decimal_end}

module _ (n : ℕ) (h : n < decimal_end) where
  hundreds : n / 10 / 10 ≡ n / 100
  hundreds = omega arith

  thousands : n / 100 / 10 ≡ n / 1000
  thousands = omega arith

  -- the tests of weights are the definition's tests of what is left of the number
  by_size : all_parts (decimal_parts n) ≡ decimal n
  by_size =
      ⊎_elim
      (λ (l : n < 10). simp (lt-ltb n 10 l, lt-leb 10 n l, lt-leb 100 n (omega arith), lt-leb 1000 n (omega arith)))
      (λ (g : 10 ≤ n).
      ⊎_elim
      (λ (l : n < 100). simp (le-ltb n 10 g, lt-ltb (n / 10) 10 (omega arith), le-leb 10 n g, lt-leb 100 n l, lt-leb 1000 n (omega arith)))
      (λ (k : 100 ≤ n).
      simp (le-ltb n 10 g, le-ltb (n / 10) 10 (omega arith), le-leb 10 n g, le-leb 100 n k, hundreds)
      (⊎_elim
      (λ (l : n < 1000). simp (lt-ltb (n / 100) 10 (omega arith), lt-leb 1000 n l))
      (λ (m : 1000 ≤ n). simp (le-ltb (n / 100) 10 (omega arith), lt-ltb (n / 1000) 10 (omega arith), le-leb 1000 n m, thousands))
      (lt_or_le n 1000)))
      (lt_or_le n 100))
      (lt_or_le n 10)

  pub decimal_parts_lem : Split (decimal_parts n) (decimal n)
  decimal_parts_lem = record { same = by_size }
