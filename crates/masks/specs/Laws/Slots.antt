-- The mask of a call's slots, slot by slot, and what is in one set and not in another. Assumes nothing.
use Rattle.std.specs.Prelude.{◌≡◌, List, Bool, true, false, ℕ, ◌+◌, ◌-◌, ◌*◌, ◌%◌, ◌^◌, ◌<◌}
use Rattle.std.proofs.Common.{⊎_elim, arith, shl_exact}
use Rattle.std.specs.Int.Bits.{bit_and, bit_or}
use Rattle.tables.specs.Count.{bit}
use Rattle.tables.specs.Masks.{bit_of, Has, IsMask}
use Rattle.tables.specs.Laws.Facts.{eq_or_ne, lt_or_le}
use Rattle.tables.specs.Laws.Masks.{bit_zero, bit_or_lem, shifted_same, shifted_other, and_has, and_both, not_clear, clear_not}
use Rattle.layout.specs.Places.{cause_of}
use Rattle.masks.specs.Slots.{SlotsTested, SetDifference}

module _ {T : ℕ → Bool → Type 0} {slots : List ℕ} {c : ℕ} where
  -- before the first slot
  pub tested_none : SlotsTested T slots c 0 0
  tested_none = record { each = λ s l. absurd (omega arith); past = λ s l. bit_zero s }

  -- one slot more: a shift of one bit by less than 32 loses nothing
  pub tested_more : {n m : ℕ} (b : Bool) → n < 32 → T (cause_of slots c n) b → SlotsTested T slots c n m → SlotsTested T slots c (n + 1) (bit_or m (bit b * 2 ^ n % 4294967296))
  tested_more {n} {m} b l t x =
      rw (shl_exact {a = bit b} 1 n 32 small (omega arith))
      (record {
        each = λ s ls.
            ⊎_elim
            (λ (e : s ≡ n). rw e (b, t, omega (arith, bit_or_lem m (bit b * 2 ^ n) n, x.past n (omega arith), shifted_same (bit b) n small)))
            (λ ne.
            let y = x.each s (omega arith) in
            let same = y.2 in
            (y.0, y.1, omega (arith, bit_or_lem m (bit b * 2 ^ n) s, shifted_other (bit b) n s small ne)))
            (eq_or_ne s n);
        past = λ s ls. omega (arith, bit_or_lem m (bit b * 2 ^ n) s, x.past s (omega arith), shifted_other (bit b) n s small (λ e. omega arith));
      })
    where
      small : bit b < 2
      small = elim b as (λ v. bit v < 2) [ true ↦ omega arith | false ↦ omega arith ]

  -- so it is the mask of what the test takes
  pub tested_mask : (P : ℕ → Type 0) {n m : ℕ} → SlotsTested T slots c n m → ((s : ℕ) → s < n → P s → T (cause_of slots c s) false → ⊥) → ((s : ℕ) → s < n → T (cause_of slots c s) true → P s) → IsMask P n m
  tested_mask P {n} {m} x takes holds = record { has = has; only = only }
    where
      has : (s : ℕ) → s < n → P s → Has m s
      has s l h = case (x.each s l)
        where
          case : (b : Bool) × T (cause_of slots c s) b × (bit_of m s ≡ bit b) → Has m s
          case (true, t, e) = e
          case (false, t, e) = absurd (takes s l h t)

      only : (s : ℕ) → Has m s → (s < n) × P s
      only s h = ⊎_elim (λ l. (l, case l (x.each s l))) (λ g. let z = x.past s g in absurd (omega arith)) (lt_or_le s n)
        where
          case : s < n → (b : Bool) × T (cause_of slots c s) b × (bit_of m s ≡ bit b) → P s
          case l (true, t, e) = holds s l t
          case l (false, t, e) = absurd (omega arith)

-- AND with the complement is the difference
pub bits_difference : (x y : ℕ) → y < 2 ^ 32 → SetDifference x y (bit_and x (4294967295 - y))
bits_difference x y l =
    record {
      has = λ s ls h n. and_has x (4294967295 - y) s h (not_clear 32 y s l ls n);
      only = λ s ls h. let b = and_both x (4294967295 - y) s h in (b.0, clear_not 32 y s l ls b.1);
    }
