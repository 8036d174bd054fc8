-- LAWS OF THE ROWS THAT PASS A TEST, for any rows and any test: each row listed is that of a place that passes, each place that passes has its row listed, and they rise
-- by any rank that rises with the places, so that no two are the same. Assumes nothing.
use Rattle.std.specs.Prelude.{◌≡◌, refl, Bool, true, false, cond, List, [], ◌∷◌, ◌++◌, ◌≢◌, ◌⊎◌, ℕ, zero, suc, ◌+◌, ◌<◌, length, get_or, T}
use Rattle.std.proofs.Common.{ap, ◌∙◌, append-nil, inl, inr, ⊎_elim, eq-or-lt_of_le, le_of_suc-le-suc, arith, length-append}
use Rattle.std.proofs.Math.ListN.{get_or-append}
use Rattle.std.proofs.Math.Seq.{get_or-append_seam}
use Rattle.model.specs.Tests.{count_below}
use Rattle.model.specs.Listing.{rows_to}

-- a list with one more at the end, if a test passes: its members are the old ones and that one
abbrev longer : List (List ℕ) → Bool → List ℕ → List (List ℕ)
longer xs b x = xs ++ cond b (x ∷ []) []

-- which of them stands at place w
longer_at : (xs : List (List ℕ)) (b : Bool) (x : List ℕ) (w : ℕ) → w < length (longer xs b x)
    → ((w < length xs) × (get_or (longer xs b x) w [] ≡ get_or xs w [])) ⊎ (T b × (w ≡ length xs) × (get_or (longer xs b x) w [] ≡ x))
longer_at xs true x w h = go (eq-or-lt_of_le (le_of_suc-le-suc (omega (arith, length-append xs (x ∷ [])))))
  where
    go : (w ≡ length xs) ⊎ (w < length xs)
        → ((w < length xs) × (get_or (xs ++ (x ∷ [])) w [] ≡ get_or xs w [])) ⊎ (T true × (w ≡ length xs) × (get_or (xs ++ (x ∷ [])) w [] ≡ x))
    go (inl e) = inr (tt, e, ap (λ (i : ℕ). get_or (xs ++ (x ∷ [])) i []) e ∙ get_or-append_seam xs x [] [])
    go (inr l) = inl (l, get_or-append xs (x ∷ []) [] w l)
longer_at xs false x w h =
    let same = append-nil xs in inl (rw same at h, ap (λ (l : List (List ℕ)). get_or l w []) same)

-- the old ones keep their places, and the new one has the next
longer_old : (xs : List (List ℕ)) (b : Bool) (x : List ℕ) (w : ℕ) → w < length xs → (w < length (longer xs b x)) × (get_or (longer xs b x) w [] ≡ get_or xs w [])
longer_old xs b x w l = (omega (arith, length-append xs (cond b (x ∷ []) [])), get_or-append xs (cond b (x ∷ []) []) [] w l)

longer_new : (xs : List (List ℕ)) (x : List ℕ) → (length xs < length (xs ++ (x ∷ []))) × (get_or (xs ++ (x ∷ [])) (length xs) [] ≡ x)
longer_new xs x = (omega (arith, length-append xs (x ∷ [])), get_or-append_seam xs x [] [])

-- A ROW THAT IS LISTED, of the places before n
pub record RowPassed (row_of : ℕ → List ℕ) (f : ℕ → Bool) (n : ℕ) (row : List ℕ) : Type 0 where
  pub place : ℕ
  pub below : place < n
  pub passes : T (f place)
  pub is : row ≡ row_of place

module _ (row_of : ℕ → List ℕ) (f : ℕ → Bool) where
  -- HOW MANY there are
  pub listed_count : (n : ℕ) → length (rows_to row_of n f) ≡ count_below n f
  listed_count zero = refl
  listed_count (suc i) = length-append (rows_to row_of i f) (cond (f i) (row_of i ∷ []) []) ∙ go (f i) (listed_count i)
    where
      go : (b : Bool) → length (rows_to row_of i f) ≡ count_below i f → length (rows_to row_of i f) + length (cond b (row_of i ∷ []) []) ≡ count_below i f + cond b 1 0
      go true e = omega arith
      go false e = omega arith

  -- A ROW LISTED IS OF A PLACE THAT PASSES
  pub listed_passed : (n w : ℕ) → w < length (rows_to row_of n f) → RowPassed row_of f n (get_or (rows_to row_of n f) w [])
  listed_passed zero w h = absurd (omega arith)
  listed_passed (suc i) w h =
      ⊎_elim
      (λ old. let p = listed_passed i w old.0 in record { place = p.place; below = omega (arith, p.below); passes = p.passes; is = old.1 ∙ p.is })
      (λ new. record { place = i; below = omega arith; passes = new.0; is = new.2 })
      (longer_at (rows_to row_of i f) (f i) (row_of i) w h)

  -- A PLACE THAT PASSES HAS ITS ROW LISTED
  pub passed_listed : (n i : ℕ) → i < n → T (f i) → (w : ℕ) × (w < length (rows_to row_of n f)) × (get_or (rows_to row_of n f) w [] ≡ row_of i)
  passed_listed zero i h t = absurd (omega arith)
  passed_listed (suc n) i h t = go (λ l. passed_listed n i l t) (eq-or-lt_of_le (le_of_suc-le-suc h))
    where
      new : (b : Bool) → T b → (w : ℕ) × (w < length (longer (rows_to row_of n f) b (row_of n))) × (get_or (longer (rows_to row_of n f) b (row_of n)) w [] ≡ row_of n)
      new true t = let there = longer_new (rows_to row_of n f) (row_of n) in (length (rows_to row_of n f), there.0, there.1)
      new false t = absurd t

      go : (i < n → (w : ℕ) × (w < length (rows_to row_of n f)) × (get_or (rows_to row_of n f) w [] ≡ row_of i)) → (i ≡ n) ⊎ (i < n)
          → (w : ℕ) × (w < length (rows_to row_of (suc n) f)) × (get_or (rows_to row_of (suc n) f) w [] ≡ row_of i)
      go so_far (inl e) = rw e (new (f n) (rw e at t))
      go so_far (inr l) =
          let old = so_far l in
          let there = longer_old (rows_to row_of n f) (f n) (row_of n) old.0 old.1 in
          (old.0, there.0, there.1 ∙ old.2)

  -- THE ROWS RISE by a rank that rises with the places
  module _ (rank_of : List ℕ → ℕ) (rises : (i j : ℕ) → i < j → rank_of (row_of i) < rank_of (row_of j)) where
    pub listed_rise : (n v w : ℕ) → v < w → w < length (rows_to row_of n f) → rank_of (get_or (rows_to row_of n f) v []) < rank_of (get_or (rows_to row_of n f) w [])
    listed_rise zero v w vw h = absurd (omega arith)
    listed_rise (suc i) v w vw h = ⊎_elim (older (listed_rise i v w vw)) newer (longer_at xs b (row_of i) w h)
      where
        xs : List (List ℕ)
        xs = rows_to row_of i f

        b : Bool
        b = f i

        older : (w < length xs → rank_of (get_or xs v []) < rank_of (get_or xs w [])) → (w < length xs) × (get_or (longer xs b (row_of i)) w [] ≡ get_or xs w [])
            → rank_of (get_or (longer xs b (row_of i)) v []) < rank_of (get_or (longer xs b (row_of i)) w [])
        older so_far old = rw ((longer_old xs b (row_of i) v (omega (arith, old.0))).1, old.1) (so_far old.0)

        newer : T b × (w ≡ length xs) × (get_or (longer xs b (row_of i)) w [] ≡ row_of i) → rank_of (get_or (longer xs b (row_of i)) v []) < rank_of (get_or (longer xs b (row_of i)) w [])
        newer new =
            let l : v < length xs = omega (arith, new.1) in
            let p = listed_passed i v l in
            rw ((longer_old xs b (row_of i) v l).1, p.is, new.2) (rises p.place i p.below)

    -- so no two are the same
    pub listed_apart : (n v w : ℕ) → v < w → w < length (rows_to row_of n f) → get_or (rows_to row_of n f) v [] ≢ get_or (rows_to row_of n f) w []
    listed_apart n v w vw h e = let less = listed_rise n v w vw h in let same = ap rank_of e in omega arith
