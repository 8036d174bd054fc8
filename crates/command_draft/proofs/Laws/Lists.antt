-- A SEARCH OF A PART OF A LIST, or of the numbers below a bound, finds what a test of each number below the bound says; and so does a comparison of two parts.
-- Assumes nothing.
use Rattle.std.specs.Prelude.{◌≡◌, refl, Bool, true, false, ◌&&◌, ◌||◌, List, [], ◌∷◌, ℕ, zero, suc, ◌+◌, ◌-◌, ◌≤◌, length, get_or, take, drop, eqb, leb}
use Rattle.std.specs.List.{list_any, range_with_len}
use Rattle.std.specs.Cmp.Lexicographic.{pointwise}
use Rattle.std.proofs.Common.{sym, ap, ◌∙◌, add-one, arith, length-drop, le-leb}
use Rattle.std.proofs.Math.Dec.{leb-suc-zero, leb-suc-suc}
use Rattle.std.proofs.lemmas.List.{take_all, get_or-drop}
use Rattle.std.proofs.lemmas.List.Folds.{list_any_more}
use Rattle.std.proofs.lemmas.List.FromFn.{length-range_with_len, get_or-range_with_len}
use Rattle.model.specs.Tests.{some?, every?}
use Rattle.model.proofs.Laws.Search.{some_same, every_same}

-- a test of the numbers below n + 1 begins with that of 0
some_front : (f : ℕ → Bool) (n : ℕ) → some? (suc n) f ≡ (f 0 || some? n (λ k. f (suc k)))
some_front f zero = go (f 0)
  where
    go : (b : Bool) → false || b ≡ b || false
    go true = refl
    go false = refl
some_front f (suc n) = rw (some_front f n) (go (f 0) (some? n (λ k. f (suc k))) (f (suc n)))
  where
    go : (a b c : Bool) → (a || b) || c ≡ a || (b || c)
    go true b c = refl
    go false b c = refl

every_front : (f : ℕ → Bool) (n : ℕ) → every? (suc n) f ≡ (f 0 && every? n (λ k. f (suc k)))
every_front f zero = go (f 0)
  where
    go : (b : Bool) → true && b ≡ b && true
    go true = refl
    go false = refl
every_front f (suc n) = rw (every_front f n) (go (f 0) (every? n (λ k. f (suc k))) (f (suc n)))
  where
    go : (a b c : Bool) → (a && b) && c ≡ a && (b && c)
    go true b c = refl
    go false b c = refl

-- the first n members
pub any_first : (f : ℕ → Bool) (d n : ℕ) (xs : List ℕ) → n ≤ length xs → list_any f (take n xs) ≡ some? n (λ k. f (get_or xs k d))
any_first f d zero xs h = refl
any_first f d (suc n) xs h =
    let e = any_first f d n xs (omega arith) in
    ap (λ (j : ℕ). list_any f (take j xs)) (sym (add-one n)) ∙ list_any_more f xs n d (omega arith) ∙ rw e refl

-- all of them
any_all : (f : ℕ → Bool) (d : ℕ) (xs : List ℕ) → list_any f xs ≡ some? (length xs) (λ k. f (get_or xs k d))
any_all f d xs = ap (list_any f) (sym (take_all (length xs) xs (omega arith))) ∙ any_first f d (length xs) xs (omega arith)

-- those past the first n
any_dropped : (f : ℕ → Bool) (d n : ℕ) (xs : List ℕ) → list_any f (drop n xs) ≡ some? (length xs) (λ k. leb n k && f (get_or xs k d))
any_dropped f d zero xs =
    any_all f d xs
    ∙ some_same (length xs) (λ k. f (get_or xs k d)) (λ k. leb 0 k && f (get_or xs k d)) (λ k h. rw (le-leb 0 k (omega arith)) refl)
any_dropped f d (suc n) [] = refl
any_dropped f d (suc n) (x ∷ xs) =
    any_dropped f d n xs
    ∙ some_same (length xs) (λ k. leb n k && f (get_or xs k d)) (λ k. leb (suc n) (suc k) && f (get_or xs k d)) (λ k h. ap (λ (b : Bool). b && f (get_or xs k d)) (later k))
    ∙ front (leb (suc n) 0) (leb-suc-zero n)
    ∙ sym (some_front (λ k. leb (suc n) k && f (get_or (x ∷ xs) k d)) (length xs))
  where
    later : (k : ℕ) → leb n k ≡ leb (suc n) (suc k)
    later k = sym (leb-suc-suc n k)

    front : (b : Bool) → b ≡ false → some? (length xs) (λ k. leb (suc n) (suc k) && f (get_or xs k d)) ≡ ((b && f x) || some? (length xs) (λ k. leb (suc n) (suc k) && f (get_or xs k d)))
    front b e = rw e refl

pub any_past : (f : ℕ → Bool) (d n m : ℕ) (xs : List ℕ) → length xs ≡ m → list_any f (take (m - n) (drop n xs)) ≡ some? m (λ k. leb n k && f (get_or xs k d))
any_past f d n m xs e =
    ap (list_any f) (take_all (m - n) (drop n xs) (omega (arith, length-drop n xs)))
    ∙ any_dropped f d n xs
    ∙ ap (λ (m : ℕ). some? m (λ k. leb n k && f (get_or xs k d))) e

-- the numbers below n
pub any_below : (f : ℕ → Bool) (n : ℕ) → list_any f (range_with_len 0 n) ≡ some? n f
any_below f n =
    any_all f 0 (range_with_len 0 n)
    ∙ ap (λ (m : ℕ). some? m (λ k. f (get_or (range_with_len 0 n) k 0))) (length-range_with_len 0 n)
    ∙ some_same n (λ k. f (get_or (range_with_len 0 n) k 0)) f
    (λ k h. let e : get_or (range_with_len 0 n) k 0 ≡ k = omega (arith, get_or-range_with_len 0 n k 0 h) in ap f e)

-- the first n members of two lists
same_first : (d d' n : ℕ) (xs ys : List ℕ) → n ≤ length xs → n ≤ length ys
    → pointwise eqb (take n xs) (take n ys) ≡ every? n (λ k. eqb (get_or xs k d) (get_or ys k d'))
same_first d d' zero xs ys h h' = refl
same_first d d' (suc n) [] ys h h' = absurd (omega arith)
same_first d d' (suc n) (x ∷ xs) [] h h' = absurd (omega arith)
same_first d d' (suc n) (x ∷ xs) (y ∷ ys) h h' =
    ap (λ (b : Bool). eqb x y && b) (same_first d d' n xs ys (omega arith) (omega arith))
    ∙ sym (every_front (λ k. eqb (get_or (x ∷ xs) k d) (get_or (y ∷ ys) k d')) n)

pub same_parts : (n at : ℕ) (xs ys : List ℕ) → at + n ≤ length xs → n ≤ length ys
    → pointwise eqb (take (at + n - at) (drop at xs)) (take n ys) ≡ every? n (λ k. eqb (get_or xs (at + k) 0) (get_or ys k 255))
same_parts n at xs ys h h' =
    let e : at + n - at ≡ n = omega arith in
    ap (λ (m : ℕ). pointwise eqb (take m (drop at xs)) (take n ys)) e
    ∙ same_first 0 255 n (drop at xs) ys (omega (arith, length-drop at xs)) h'
    ∙ every_same n (λ k. eqb (get_or (drop at xs) k 0) (get_or ys k 255)) (λ k. eqb (get_or xs (at + k) 0) (get_or ys k 255))
    (λ k l. ap (λ (z : ℕ). eqb z (get_or ys k 255)) (get_or-drop at xs k 0))
