-- One read after another, and the sheet of them all.
use Rattle.std.specs.Prelude.{◌≡◌, refl, Bool, true, false, Option, None, Some, IfSome, List, [], ◌++◌, ℕ, ◌+◌, ◌≤◌, ◌<◌, length, take, ltb}
use Rattle.std.proofs.Common.{sym, ap, subst, ◌∙◌, append-nil, arith, length-append, length-take-le, lt-ltb, ltb-true, ltb-false}
use Rattle.std.proofs.Math.Seq.{take-append-add}
use Rattle.std.proofs.lemmas.List.{take-append-le}
use Rattle.std.specs.Io.KnownBytes.{Consumes, Appends, IsAtEnd}
use Rattle.model.specs.Sheet.{input_most, sheet_of}
use borrow.Rule.Slice.PartMut.{put_mid, post_of}

-- what is put behind the first n is read behind them
pub take_read : (n k r : ℕ) (xs ys : List ℕ) → n ≤ length xs → r ≤ length ys → take (n + r) (put_mid n k xs ys) ≡ take n xs ++ take r ys
take_read n k r xs ys h i =
    let size : n + r ≡ length (take n xs) + r = omega (arith, length-take-le n xs h) in
    ap (λ (m : ℕ). take m (put_mid n k xs ys)) size
    ∙ take-append-add (take n xs) (ys ++ post_of n k xs) r
    ∙ ap (λ (l : List ℕ). take n xs ++ l) (take-append-le r ys (post_of n k xs) i)

-- where no more than the longest input was read there is no more: otherwise what was read is too long, and so is all
sheet_same : (read rest : List ℕ) → (length read ≤ input_most → rest ≡ []) → sheet_of read ≡ sheet_of (read ++ rest)
sheet_same read rest end = go (ltb input_most (length read)) refl
  where
    go : (b : Bool) → ltb input_most (length read) ≡ b → sheet_of read ≡ sheet_of (read ++ rest)
    go true e =
        rw (e, lt-ltb input_most (length (read ++ rest)) (omega (arith, length-append read rest, ltb-true input_most (length read) e))) refl
    go false e = ap sheet_of (sym (append-nil read) ∙ ap (λ (l : List ℕ). read ++ l) (sym (end (ltb-false input_most (length read) e))))

-- the sheet of what was read into a buffer that is longer than the longest input is the sheet of all
pub sheet_appended : (old new from to : Option (List ℕ)) (n : ℕ) (bytes written : List ℕ) → input_most < length bytes → n ≤ length bytes
    → Consumes old new (take n bytes) × (n < length bytes → IsAtEnd new) → written ≡ sheet_of (take n bytes) → Appends from to written
    → IfSome old (λ all. Appends from to (sheet_of all))
sheet_appended None new from to n bytes written room fits full is appended = tt
sheet_appended (Some all) None from to n bytes written room fits full is appended = absurd full.0
sheet_appended (Some all) (Some rest) from to n bytes written room fits full is appended =
    let read = take n bytes in
    let none : length read ≤ input_most → rest ≡ [] = λ short. full.1 (omega (arith, length-take-le n bytes fits, short, room)) in
    subst (λ (l : List ℕ). Appends from to l) (is ∙ sheet_same read rest none ∙ ap sheet_of (sym full.0)) appended
