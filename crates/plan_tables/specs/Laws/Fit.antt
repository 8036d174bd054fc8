-- A LOOP OVER THE RULES OF A MASK, lowest first: those that are not left each have a row with the plan's slots. Assumes nothing.
use Rattle.std.specs.Prelude.{◌≡◌, Bool, true, false, not, ◌||◌, List, ◌≢◌, ℕ, ◌+◌, ◌-◌, ◌*◌, ◌^◌, ◌<◌, get_or, eqb}
use Rattle.std.proofs.Math.Path.{sym}
use Rattle.std.proofs.Math.Logic.{inl, inr}
use Rattle.std.proofs.Common.{⊎_elim, eq-eqb, ne_eqb}
use Rattle.std.specs.Int.Bits.{bit_and}
use Rattle.std.specs.Int.Count.{count_trailing_zeros}
use Rattle.tables.specs.Masks.{bit_of}
use Rattle.tables.specs.Laws.Facts.{eq_or_ne}
use Rattle.tables.specs.Laws.Left.{Left, Removed, left_all, left_lowest, left_more, taken_only, taken_all}
use Rattle.layout.specs.Places.{rows_of}
use Rattle.model.specs.Tests.{some?, every?}
use Rattle.model.proofs.Laws.Tests.{→T, T→, not→, →or, every→, →every}
use Rattle.plan_fit.specs.Words.{plan_byte, IsWord}
use Rattle.plan_tables.specs.declared.lookup.Tables.{Tables}
use Rattle.plan_tables.specs.Lookup.{columns_at}
use Rattle.plan_tables.specs.Fit.{wanted_by, fitted_by, stays_by}

-- ONE RULE, by the word that the code makes of the plan
pub fitted_by_lem : (t : Tables) (plan : List ℕ) (p : ℕ) {wanted : ℕ} {b : Bool} → IsWord (columns_at t.columns p) (plan_byte plan) wanted
    → b ≡ some? (rows_of t.lengths p) (λ w. eqb (get_or t.words (64 * p + w) 0) wanted) → b ≡ fitted_by t plan p
unfolding fitted_by wanted_by
fitted_by_lem t plan p word e = rw (← word.is) e

module _ (t : Tables) (plan : List ℕ) where
  abbrev fits : ℕ → Bool
  fits p = fitted_by t plan p

  pub record FitSoFar (rules left : ℕ) : Type 0 where
    pub lowest_first : Left 64 rules left
    pub fit : (p : ℕ) → Removed rules left p → fits p ≡ true

  pub fit_start : (rules : ℕ) → rules < 2 ^ 64 → FitSoFar rules rules
  fit_start rules h = record { lowest_first = left_all 64 rules h; fit = λ p r. absurd (r.out r.had) }

  pub fit_more : {rules left : ℕ} → left ≢ 0 → FitSoFar rules left → fits (count_trailing_zeros 64 left) ≡ true → FitSoFar rules (bit_and left (left - 1))
  fit_more {rules} {left} n x e =
      record {
        lowest_first = left_more n x.lowest_first;
        fit = λ p r. ⊎_elim (λ o. x.fit p o) (λ (z : p ≡ count_trailing_zeros 64 left). rw z e) (taken_only n x.lowest_first p r);
      }

  abbrev passes : ℕ → ℕ → Bool
  passes rules p = not (eqb (bit_of rules p) 1) || fits p

  pub fit_all : {rules left : ℕ} → left ≡ 0 → FitSoFar rules left → true ≡ stays_by t rules plan
  unfolding stays_by
  fit_all {rules} z x =
      sym (T→ (every? 64 (passes rules))
      (→every 64 (passes rules)
      (λ p h.
      →or (not (eqb (bit_of rules p) 1)) (fits p)
      (⊎_elim (λ (b : bit_of rules p ≡ 1). inr (→T (fits p) (x.fit p (taken_all z b)))) (λ n. inl (rw (ne_eqb (bit_of rules p) 1 n) tt)) (eq_or_ne (bit_of rules p) 1)))))

  pub fit_fails : {rules left : ℕ} → left ≢ 0 → FitSoFar rules left → fits (count_trailing_zeros 64 left) ≡ false → false ≡ stays_by t rules plan
  unfolding stays_by
  fit_fails {rules} {left} n x e =
      let low = left_lowest n x.lowest_first in
      let p = count_trailing_zeros 64 left in
      let b : bit_of rules p ≡ 1 = x.lowest_first.part p low.here in
      sym (not→ (every? 64 (passes rules))
      (λ x. let d = every→ 64 (passes rules) x p low.place in absurd (rw (eq-eqb (bit_of rules p) 1 b, e) at d)))
