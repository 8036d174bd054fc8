-- A loop that takes the lowest bit of a mask away in each round: what is left of the mask, and which numbers are taken. Assumes nothing.
use Rattle.std.specs.Prelude.{◌≡◌, List, ◌⊎◌, ℕ, ◌-◌, ◌^◌, ◌<◌}
use Rattle.std.proofs.Common.{sym, ◌∙◌, inl, inr, ⊎_elim, arith}
use Rattle.std.specs.Int.Bits.{bit_and}
use Rattle.std.proofs.lemmas.Nat.{and_le_r}
use Rattle.std.specs.Int.Count.{count_trailing_zeros}
use Rattle.tables.specs.Assign.{Assigned}
use Rattle.tables.specs.Masks.{Has}
use Rattle.tables.specs.Laws.Assign.{assign_keep, assign_same, assign_both}
use Rattle.tables.specs.Laws.Facts.{eq_or_ne}
use Rattle.tables.specs.Laws.Masks.{Lowest, lowest, has_some}

-- what is left of a mask of k bits
pub record Left (k mask left : ℕ) : Type 0 where
  pub small : left < 2 ^ k
  pub part : (s : ℕ) → Has left s → Has mask s

-- number s of the mask is not left
pub record Removed (mask left s : ℕ) : Type 0 where
  pub had : Has mask s
  pub out : Has left s → ⊥

-- before the first round all are left
pub left_all : (k mask : ℕ) → mask < 2 ^ k → Left k mask mask
left_all k mask l = record { small = l; part = λ s h. h }

module _ {k mask left : ℕ} (some : left ≡ 0 → ⊥) (x : Left k mask left) where
  pub left_lowest : Lowest k left (count_trailing_zeros k left) (bit_and left (left - 1))
  left_lowest = lowest k left x.small (omega arith)

  -- the lowest is taken, and all else is as before
  pub taken_lowest : Removed mask (bit_and left (left - 1)) (count_trailing_zeros k left)
  taken_lowest = let l = left_lowest in record { had = x.part (count_trailing_zeros k left) l.here; out = λ h. omega (arith, l.gone) }

  pub taken_stays : (s : ℕ) → Removed mask left s → Removed mask (bit_and left (left - 1)) s
  taken_stays s t =
      let l = left_lowest in
      record {
        had = t.had;
        out = λ h.
            ⊎_elim
            (λ (e : s ≡ count_trailing_zeros k left). t.out (rw e l.here))
            (λ ne. t.out (sym (l.others s ne) ∙ h))
            (eq_or_ne s (count_trailing_zeros k left));
      }

  pub taken_only : (s : ℕ) → Removed mask (bit_and left (left - 1)) s → Removed mask left s ⊎ (s ≡ count_trailing_zeros k left)
  taken_only s t =
      let l = left_lowest in
      ⊎_elim (λ (e : s ≡ count_trailing_zeros k left). inr e) (λ ne. inl (record { had = t.had; out = λ h. t.out (l.others s ne ∙ h) })) (eq_or_ne s (count_trailing_zeros k left))

  pub left_more : Left k mask (bit_and left (left - 1))
  left_more =
      let l = left_lowest in
      record {
        small = omega (arith, and_le_r left (left - 1), x.small);
        part = λ s h.
            ⊎_elim
            (λ (e : s ≡ count_trailing_zeros k left). let g : Has (bit_and left (left - 1)) (count_trailing_zeros k left) = rw e at h in absurd (omega (arith, l.gone)))
            (λ ne. x.part s (sym (l.others s ne) ∙ h))
            (eq_or_ne s (count_trailing_zeros k left));
      }

-- after the last round all are taken
pub taken_all : {mask left s : ℕ} → left ≡ 0 → Has mask s → Removed mask left s
taken_all {left = left} {s = s} z h = record { had = h; out = λ g. has_some left s g z }

-- in the set of one of the numbers with P
abbrev pub Of : (ℕ → ℕ → Type 0) → (ℕ → Type 0) → ℕ → Type 0
Of Q P j = (s : ℕ) × P s × Q s j

-- ONE VALUE WRITTEN at the entries of one set in each round
module _ {A : Type 0} (d v : A) (Free : A → Type 0) (Q : ℕ → ℕ → Type 0) where
  pub assign_left : (mask : ℕ) (l : List A) → Assigned d v Free (Of Q (Removed mask mask)) l l
  assign_left mask l = assign_keep d v Free _ l (λ j q f. absurd (q.1.out q.1.had))

  pub assign_lowest : {k mask left : ℕ} {a b c : List A} → (left ≡ 0 → ⊥) → Left k mask left → Assigned d v Free (Of Q (Removed mask left)) a b
      → Assigned d v Free (Q (count_trailing_zeros k left)) b c → Assigned d v Free (Of Q (Removed mask (bit_and left (left - 1)))) a c
  assign_lowest {k} {mask} {left} {a} {b} {c} some x p q =
      assign_same d v Free _ _
      (λ j z.
      ⊎_elim
      (λ t. inl (z.0, t, z.2))
      (λ (e : z.0 ≡ count_trailing_zeros k left). inr (rw e at z.2))
      (taken_only some x z.0 z.1))
      (λ j z.
      ⊎_elim
      (λ y. (y.0, taken_stays some x y.0 y.1, y.2))
      (λ y. (count_trailing_zeros k left, taken_lowest some x, y))
      z)
      (assign_both d v Free _ _ a b c p q)

  pub assign_taken : {mask left : ℕ} {a b : List A} → left ≡ 0 → Assigned d v Free (Of Q (Removed mask left)) a b → Assigned d v Free (Of Q (Has mask)) a b
  assign_taken z p = assign_same d v Free _ _ (λ j y. (y.0, taken_all z y.1, y.2)) (λ j y. (y.0, y.1.had, y.2)) p
