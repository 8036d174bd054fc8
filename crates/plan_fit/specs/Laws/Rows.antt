-- LOOPS THAT LOOK FOR A NUMBER THAT PASSES, part by part: one number more, and one part more. Assumes nothing.
use Rattle.std.specs.Prelude.{◌≡◌, refl, Bool, true, false, ◌||◌, ℕ, ◌+◌, ◌≤◌}
use Rattle.std.proofs.Common.{sym, ◌∙◌, ⊎_elim, arith}
use Rattle.tables.specs.Laws.Facts.{true_false, lt_or_le, eq_or_ne}
use Rattle.model.specs.Tests.{some?}
use Rattle.model.proofs.Laws.Tests.{→T, T→, →some, none_passes}
use Rattle.model.proofs.Laws.Search.{NoneBelow, none_all}
use Rattle.plan_fit.specs.Words.{SomeBetween}

-- ONE NUMBER MORE
pub between_start : {f : ℕ → Bool} (from : ℕ) → SomeBetween f from from false
between_start from = record { found = λ e. absurd (true_false e refl); none = λ e w h l. absurd (omega arith) }

pub between_more : {f : ℕ → Bool} {from w : ℕ} {found b : Bool} → SomeBetween f from w found → from ≤ w → b ≡ f w → SomeBetween f from (w + 1) (found || b)
between_more {f} {from} {w} {found} {b} so h e = go found so
  where
    go : (found : Bool) → SomeBetween f from w found → SomeBetween f from (w + 1) (found || b)
    go true so = record { found = λ t. let x = so.found refl in let l = x.2 in (x.0, x.1, omega arith, x.3); none = λ z. absurd (true_false refl z) }
    go false so =
        record {
          found = λ t. (w, h, omega arith, →T (f w) (sym e ∙ t));
          none = λ z v hv lv. ⊎_elim (λ (q : v ≡ w). rw q (sym e ∙ z)) (λ (n : v ≡ w → ⊥). so.none refl v hv (omega (arith, n))) (eq_or_ne v w);
        }

-- ONE PART MORE, where nothing below it passes: it passes as a whole, not yet, or it was the last one
module _ {f : ℕ → Bool} {w to : ℕ} {r : Bool} (part : SomeBetween f w to r) where
  pub part_passes : (n : ℕ) → to ≤ n → r ≡ true → true ≡ some? n f
  part_passes n h e = let x = part.found e in let l = x.2 in sym (T→ (some? n f) (→some n f x.0 (omega arith) x.3))

  pub part_fails : NoneBelow f w → r ≡ false → NoneBelow f to
  part_fails below e = none_all (λ i h. ⊎_elim (λ l. none_passes w f below.none i l) (λ le. part.none e i le h) (lt_or_le i w))

  pub part_last : NoneBelow f w → r ≡ some? to f
  part_last below = go r refl
    where
      go : (b : Bool) → r ≡ b → r ≡ some? to f
      go true e = e ∙ part_passes to (omega arith) e
      go false e = e ∙ sym (part_fails below e).none
