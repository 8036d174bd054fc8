-- COUNTS: a search for a bad one finds what refusal 5 says, and counts that it takes are, byte by byte, those of the board that they make.
-- Assumes nothing.
use Rattle.std.specs.Prelude.{◌≡◌, refl, Bool, true, false, not, ◌&&◌, ◌||◌, List, [], ◌∷◌, ℕ, zero, suc, ◌+◌, ◌<◌, length, get_or, eqb, ltb}
use Rattle.std.proofs.Common.{true≢false, inl, inr, ⊎_elim, add-one, arith, eqb-true}
use Rattle.std.proofs.Math.ListN.{get_or-eq_default}
use Rattle.model.specs.Tests.{some?}
use Rattle.model.specs.Ledger.{bad_counts?, up_to_zero}
use Rattle.model.proofs.Laws.Tests.{or_false, or→, →or, and→, →and, →some, none_passes, →T, T→, →eqb}
use Rattle.model.proofs.Laws.Search.{NoneBelow, none_start, none_more}
use Rattle.command_board.specs.Made.{bad_count?}
use Rattle.tables.specs.Laws.Facts.{true_false, lt_or_le}

-- where no 0 was passed, or this is one: none is bad here, and a 0 was passed up to here exactly where this is one
zero_stays : (ended z : Bool) → (ended && not z) ≡ false → ((not z && ended) ≡ false) × ((ended || z) ≡ z)
zero_stays true true e = (refl, refl)
zero_stays true false e = absurd (true≢false e)
zero_stays false true e = (refl, refl)
zero_stays false false e = (refl, refl)

or_none : (a : Bool) → ((a || false) || false) ≡ a
or_none true = refl
or_none false = refl

last_zero : (z b : Bool) → (not z && b) ≡ false → b ≡ true → z ≡ true
last_zero true b e f = refl
last_zero false b e f = absurd (true_false f e)

module _ (ns : List ℕ) where
  -- the definition's tests
  abbrev over : ℕ → Bool
  over i = ltb 32 (get_or ns i 0)

  abbrev zero? : ℕ → Bool
  zero? i = eqb (get_or ns i 0) 0

  abbrev after : ℕ → Bool
  after j = not (zero? j) && some? j zero?

  -- what the search has found of the first j counts: none is bad, and `ended` says whether a 0 is among them
  pub record GoodSoFar (j : ℕ) (ended : Bool) : Type 0 where
    pub none_over : NoneBelow over j
    pub none_after : NoneBelow after j
    pub ended_is : some? j zero? ≡ ended

  pub good_none : GoodSoFar 0 false
  good_none = record { none_over = none_start; none_after = none_start; ended_is = refl }

  pub good_more : (j : ℕ) (ended : Bool) → GoodSoFar j ended → bad_count? (get_or ns j 0) ended ≡ false → GoodSoFar (j + 1) (zero? j)
  good_more j ended g e =
      let o = or_false (over j) (ended && not (zero? j)) e in
      let s = zero_stays ended (zero? j) o.1 in
      record {
        none_over = none_more g.none_over o.0;
        none_after = none_more g.none_after (rw g.ended_is s.0);
        ended_is = rw (add-one, g.ended_is) s.1;
      }

  pub bad_found : (j : ℕ) (ended : Bool) → GoodSoFar j ended → j < length ns → bad_count? (get_or ns j 0) ended ≡ true → bad_counts? ns ≡ true
  bad_found j ended g h e =
      T→ (bad_counts? ns)
      (→or (zero? 0 || some? (length ns) over) (some? (length ns) after)
      (⊎_elim
      (λ t. inl (→or (zero? 0) (some? (length ns) over) (inr (→some (length ns) over j h t))))
      (λ t.
      let b = and→ ended (not (zero? j)) t in
      inr (→some (length ns) after j h (→and (not (zero? j)) (some? j zero?) b.1 (rw g.ended_is b.0))))
      (or→ (over j) (ended && not (zero? j)) (→T _ e))))

  pub good_all : (j : ℕ) (ended : Bool) → GoodSoFar j ended → j ≡ length ns → bad_counts? ns ≡ zero? 0
  good_all j ended g e = rw (← e, g.none_over.none, g.none_after.none) (or_none (zero? 0))

  -- counts that are taken are 0 from the first 0 on
  pub zeros_after : bad_counts? ns ≡ false → (i j : ℕ) → i < j → get_or ns i 0 ≡ 0 → get_or ns j 0 ≡ 0
  zeros_after e i j lt z = ⊎_elim inside (λ le. get_or-eq_default ns 0 le) (lt_or_le j (length ns))
    where
      found : some? j zero? ≡ true
      found = T→ (some? j zero?) (→some j zero? i lt (→eqb (get_or ns i 0) 0 z))

      inside : j < length ns → get_or ns j 0 ≡ 0
      inside h =
          let none = none_passes (length ns) after (or_false (zero? 0 || some? (length ns) over) (some? (length ns) after) e).1 j h in
          eqb-true (get_or ns j 0) 0 (last_zero (zero? j) (some? j zero?) none found)

-- so they are, byte by byte, the counts up to the first 0
up_to_zero_lem : (ns : List ℕ) → ((i j : ℕ) → i < j → get_or ns i 0 ≡ 0 → get_or ns j 0 ≡ 0) → (c : ℕ) → get_or ns c 0 ≡ get_or (up_to_zero ns) c 0
up_to_zero_lem [] z c = refl
up_to_zero_lem (zero ∷ ns) z zero = refl
up_to_zero_lem (zero ∷ ns) z (suc c) = z 0 (suc c) (omega arith) refl
up_to_zero_lem (suc n ∷ ns) z zero = refl
up_to_zero_lem (suc n ∷ ns) z (suc c) = up_to_zero_lem ns (λ i j lt e. z (suc i) (suc j) (omega arith) e) c

pub counts_kept : (ns : List ℕ) → bad_counts? ns ≡ false → (c : ℕ) → get_or ns c 0 ≡ get_or (up_to_zero ns) c 0
counts_kept ns e = up_to_zero_lem ns (zeros_after ns e)
