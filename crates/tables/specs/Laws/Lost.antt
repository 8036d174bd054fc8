-- Where entries change in no other way, as many are lost as fewer pass f. Assumes nothing.
use Rattle.std.specs.Prelude.{◌≡◌, refl, List, [], ◌∷◌, Bool, true, false, ◌&&◌, ℕ, suc, ◌+◌, ◌<◌, length, get_or}
use Rattle.std.proofs.Common.{ap, ◌∙◌, inl, inr, ⊎_elim, arith}
use Rattle.tables.specs.Count.{bit, count}
use Rattle.tables.specs.Lost.{lost, SameOrLost, OnlyLost}
use Rattle.tables.specs.Laws.Facts.{true_false, true_or_false}

module _ {A : Type 0} (d : A) (f g : A → Bool) (apart : (x : A) → f x ≡ true → g x ≡ false) where
  pub only_none : (l : List A) → OnlyLost d f g l l
  only_none l = record { len = refl; each = λ j. inl refl }

  pub only_more : {a b c : List A} → OnlyLost d f g a b → OnlyLost d f g b c → OnlyLost d f g a c
  only_more p q =
      record {
        len = q.len ∙ p.len;
        each = λ j.
            ⊎_elim
            (λ e. ⊎_elim (λ s. inl (e ∙ s)) (λ t. inr (t.0, rw e t.1)) (p.each j))
            (λ t. ⊎_elim (λ s. inr (rw s at t.0, t.1)) (λ u. absurd (true_false u.1 (apart _ t.0))) (p.each j))
            (q.each j);
      }

  -- an entry that would pass g only where it did not pass f before is not lost
  lost_never : (x y : A) → (f x ≡ true → g y ≡ false) → bit (f x && g y) ≡ 0
  lost_never x y h = ⊎_elim (λ (e : f x ≡ true). rw (e, h e) refl) (λ (e : f x ≡ false). rw e refl) (true_or_false (f x))

  -- of one entry: it is lost, or passes f after, exactly where it passed f before
  lost_one : (x y : A) → SameOrLost f g x y → bit (f x && g y) + bit (f y) ≡ bit (f x)
  lost_one x y (inl e) = rw e (omega (arith, lost_never x x (apart x)))
  lost_one x y (inr t) =
      ⊎_elim
      (λ h. absurd (true_false t.1 (apart y h)))
      (λ (h : f y ≡ false). rw (t.0, t.1, h) refl)
      (true_or_false (f y))

  tail : {x y : A} {xs ys : List A} → OnlyLost d f g (x ∷ xs) (y ∷ ys) → OnlyLost d f g xs ys
  tail o = let l = o.len in record { len = omega arith; each = λ j. o.each (suc j) }

  -- as many are lost as fewer pass f
  pub lost_count : (old new : List A) → OnlyLost d f g old new → lost f g old new + count f new ≡ count f old
  lost_count [] [] o = omega arith
  lost_count [] (y ∷ ys) o = let z = o.len in absurd (omega arith)
  lost_count (x ∷ xs) [] o = let z = o.len in absurd (omega arith)
  lost_count (x ∷ xs) (y ∷ ys) o = omega (arith, lost_count xs ys (tail o), lost_one x y (o.each 0))

  back_one : (x y : A) → SameOrLost f g x y → bit (f y && g x) ≡ 0
  back_one x y (inl e) = rw e (lost_never x x (apart x))
  back_one x y (inr t) = lost_never y x (λ h. apart x t.0)

  -- and none the other way
  pub lost_back : (old new : List A) → OnlyLost d f g old new → lost f g new old ≡ 0
  lost_back [] [] o = refl
  lost_back [] (y ∷ ys) o = refl
  lost_back (x ∷ xs) [] o = refl
  lost_back (x ∷ xs) (y ∷ ys) o = omega (arith, lost_back xs ys (tail o), back_one x y (o.each 0))

  -- where as many pass f as before, nothing changed
  pub only_same : (old new : List A) → OnlyLost d f g old new → count f new ≡ count f old → new ≡ old
  only_same [] [] o e = refl
  only_same [] (y ∷ ys) o e = let z = o.len in absurd (omega arith)
  only_same (x ∷ xs) [] o e = let z = o.len in absurd (omega arith)
  only_same (x ∷ xs) (y ∷ ys) o e =
      let n = lost_count xs ys (tail o) in
      let h = lost_one x y (o.each 0) in
      ⊎_elim
      (λ (s : y ≡ x). rw (s, only_same xs ys (tail o) (omega (arith, ap (λ (z : A). bit (f z)) s))) refl)
      (λ t. let z : bit (f x && g y) ≡ 1 = rw (t.0, t.1) refl in absurd (omega arith))
      (o.each 0)

  -- where fewer pass f, some entry is lost
  pub only_some : (old new : List A) → OnlyLost d f g old new → count f new < count f old → (j : ℕ) × (j < length old) × (f (get_or old j d) ≡ true) × (g (get_or new j d) ≡ true)
  only_some [] ys o lt = absurd (omega arith)
  only_some (x ∷ xs) [] o lt = let z = o.len in absurd (omega arith)
  only_some (x ∷ xs) (y ∷ ys) o lt =
      ⊎_elim
      (λ (s : y ≡ x).
      let r = only_some xs ys (tail o) (omega (arith, ap (λ (z : A). bit (f z)) s)) in
      let l = r.1 in
      (suc r.0, omega arith, r.2, r.3))
      (λ t. (0, omega arith, t.0, t.1))
      (o.each 0)

  -- where what passed f passes f still, nothing is lost
  pub lost_zero : (old new : List A) → length new ≡ length old → ((j : ℕ) → j < length old → f (get_or old j d) ≡ true → f (get_or new j d) ≡ true) → lost f g old new ≡ 0
  lost_zero [] ys l h = refl
  lost_zero (x ∷ xs) [] l h = refl
  lost_zero (x ∷ xs) (y ∷ ys) l h =
      omega (
        arith,
        lost_never x y (λ e. apart y (h 0 (omega arith) e)),
        lost_zero xs ys (omega arith) (λ j lt e. h (suc j) (omega arith) e),
      )
