-- A PAIR IS LISTED behind the others: its two slots are written at its row, and the rest of the row held 255 already. Assumes nothing.
use Rattle.std.specs.Prelude.{◌≡◌, refl, Bool, true, false, List, [], ◌∷◌, ◌++◌, ℕ, zero, suc, ◌+◌, ◌*◌, ◌/◌, ◌%◌, ◌<◌, ◌≤◌, length, get_or, set, replicate}
use Rattle.std.proofs.Common.{sym, ap, ◌∙◌, append-nil, ⊎_elim, add-one, arith, length-set, length-append, get_or-set_same, get_or-set_other, lt-ltb, le-ltb}
use Rattle.std.proofs.lemmas.List.{length-replicate, get_or-replicate}
use Rattle.std.proofs.Math.ListN.{get_or-append, get_or-eq_default}
use Rattle.std.proofs.Math.Seq.{get_or-append_seam}
use Rattle.tables.specs.Laws.Facts.{eq_or_ne, lt_or_le}
use Rattle.layout.specs.Places.{own_place}
use Rattle.model.specs.Gaps.{pair_of, at_pair, pairs_to}
use Rattle.model.proofs.Laws.Tests.{count_bound}
use Rattle.model.proofs.Laws.Listing.{listed_count}
use Rattle.command_gap.specs.Pairs.{with_pair, Listed, ListedTo}

pub listed_none : (f : ℕ → ℕ → Bool) → ListedTo f 0 (replicate 256 255) 0
listed_none f =
    record {
      listed = record {
        size = length-replicate {A = ℕ} 256 255;
        count_is = refl;
        bytes = λ w k lw lk. get_or-replicate {A = ℕ} 256 (own_place w k) 255 0 (omega arith);
      };
    }

-- one pair more at the end
module _ (pairs : List (List ℕ)) (rows : List ℕ) (count a b : ℕ) (old : Listed pairs rows count) where
  abbrev more : List (List ℕ)
  more = pairs ++ ((a ∷ b ∷ []) ∷ [])

  before : (w : ℕ) → w < length pairs → get_or more w [] ≡ get_or pairs w []
  before w l = get_or-append pairs ((a ∷ b ∷ []) ∷ []) [] w l

  beyond : (w : ℕ) → length pairs < w → get_or more w [] ≡ get_or pairs w []
  beyond w l =
      get_or-eq_default more [] (omega (arith, length-append pairs ((a ∷ b ∷ []) ∷ []))) ∙ sym (get_or-eq_default pairs [] (omega arith))

  here : get_or more (length pairs) [] ≡ a ∷ b ∷ []
  here = get_or-append_seam pairs (a ∷ b ∷ []) [] []

  -- the bytes, where there is room
  module _ (room : count < 64) where
    abbrev written : List ℕ
    written = set (set rows (4 * count) a) (4 * count + 1) b

    other : (j : ℕ) → (j ≡ 4 * count → ⊥) → (j ≡ 4 * count + 1 → ⊥) → get_or written j 0 ≡ get_or rows j 0
    other j n n' = get_or-set_other (set rows (4 * count) a) (4 * count + 1) j b 0 n' ∙ get_or-set_other rows (4 * count) j a 0 n

    own : (k : ℕ) → k < 4 → get_or written (own_place count k) 0 ≡ get_or (a ∷ b ∷ []) k 255
    own zero h =
        let e : 4 * count + 0 ≡ 4 * count = omega arith in
        rw e
        (get_or-set_other (set rows (4 * count) a) (4 * count + 1) (4 * count) b 0 (λ q. omega arith) ∙ get_or-set_same rows (4 * count) a 0 (omega (arith, old.size)))
    own (suc zero) h = get_or-set_same (set rows (4 * count) a) (4 * count + 1) b 0 (omega (arith, old.size, length-set rows (4 * count) a))
    own (suc (suc k)) h =
        other (own_place count (suc (suc k))) (λ q. omega arith) (λ q. omega arith) ∙ old.bytes count (suc (suc k)) room h
        ∙ ap (λ (l : List ℕ). get_or l (suc (suc k)) 255) (get_or-eq_default pairs [] (omega (arith, old.count_is)))

    bytes_more : (w k : ℕ) → w < 64 → k < 4 → get_or written (own_place w k) 0 ≡ get_or (get_or more w []) k 255
    bytes_more w k lw lk = ⊎_elim same differ (eq_or_ne w count)
      where
        same : w ≡ count → get_or written (own_place w k) 0 ≡ get_or (get_or more w []) k 255
        same e =
            let e' : w ≡ length pairs = omega (arith, old.count_is) in
            ap (λ (v : ℕ). get_or written (own_place v k) 0) e ∙ own k lk ∙ ap (λ (l : List ℕ). get_or l k 255) (sym (ap (λ (v : ℕ). get_or more v []) e' ∙ here))

        differ : (w ≡ count → ⊥) → get_or written (own_place w k) 0 ≡ get_or (get_or more w []) k 255
        differ ne =
            other (own_place w k) (λ q. ne (omega arith)) (λ q. ne (omega arith)) ∙ old.bytes w k lw lk
            ∙ ap (λ (l : List ℕ). get_or l k 255) (sym (⊎_elim (before w) (λ le. beyond w (past le)) (lt_or_le w (length pairs))))
          where
            past : length pairs ≤ w → length pairs < w
            past le = ⊎_elim (λ (e : w ≡ length pairs). absurd (ne (omega (arith, old.count_is)))) (λ other. omega arith) (eq_or_ne w (length pairs))

  pub listed_pair : Listed more (with_pair rows count a b) (count + 1)
  listed_pair = ⊎_elim inside outside (lt_or_le count 64)
    where
      counted : count + 1 ≡ length more
      counted = omega (arith, old.count_is, length-append pairs ((a ∷ b ∷ []) ∷ []))

      inside : count < 64 → Listed more (with_pair rows count a b) (count + 1)
      inside room =
          rw (lt-ltb count 64 room)
          (record {
            size = length-set (set rows (4 * count) a) (4 * count + 1) b ∙ length-set rows (4 * count) a ∙ old.size;
            count_is = counted;
            bytes = bytes_more room;
          })

      outside : 64 ≤ count → Listed more (with_pair rows count a b) (count + 1)
      outside full =
          rw (le-ltb count 64 full)
          (record {
            size = old.size;
            count_is = counted;
            bytes = λ w k lw lk. old.bytes w k lw lk ∙ ap (λ (l : List ℕ). get_or l k 255) (sym (before w (omega (arith, old.count_is))));
          })

-- A PLACE MORE: t says whether its pair, of a and b, passes
module _ {f : ℕ → ℕ → Bool} {i count a b : ℕ} {rows : List ℕ} {t : Bool} (old : ListedTo f i rows count) (first : a ≡ i / 32) (second : b ≡ i % 32) (is : t ≡ f a b) where
  tested : f (i / 32) (i % 32) ≡ t
  tested = rw (← first, ← second) (sym is)

  pub listed_more : t ≡ true → {new : List ℕ} → new ≡ with_pair rows count a b → ListedTo f (i + 1) new (count + 1)
  listed_more passes written =
      rw (add-one i, written, first, second)
      (record { listed = rw (tested, passes) (listed_pair (pairs_to i f) rows count (i / 32) (i % 32) old.listed) })

  pub listed_passed_over : t ≡ false → ListedTo f (i + 1) rows count
  listed_passed_over fails = rw (add-one i) (record { listed = rw (tested, fails, append-nil (pairs_to i f)) old.listed })

-- there are no more of them than places
pub listed_few : {f : ℕ → ℕ → Bool} {i count : ℕ} {rows : List ℕ} → ListedTo f i rows count → count ≤ i
listed_few {f} {i} old = omega (arith, old.listed.count_is, listed_count pair_of (at_pair f) i, count_bound i (at_pair f))

-- after the last place, where the loop's test says that i is n
pub listed_all : {f : ℕ → ℕ → Bool} {i count : ℕ} {rows : List ℕ} (n : ℕ) → ListedTo f i rows count → i ≤ n → n ≤ i → Listed (pairs_to n f) rows count
listed_all {f} {i} n old le ge = let e : n ≡ i = omega arith in rw e old.listed
