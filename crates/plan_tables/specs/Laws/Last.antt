-- THE STAGE OF A RULE TELLS ITS LAST CALL: one of its columns is of that call, and each of the others is of a cancelled call or of one that is laid no later. Assumes nothing.
use Rattle.std.specs.Prelude.{◌≡◌, true, false, not, List, ◌⊎◌, ℕ, ◌+◌, ◌*◌, ◌<◌, ◌≤◌, max, get_or, eqb}
use Rattle.std.proofs.Math.Path.{refl}
use Rattle.std.proofs.Common.{sym, ap, ◌∙◌, inl, inr, ⊎_elim, eq-eqb, ne_eqb}
use native.Mathlib.Omega.{arith}
use Rattle.tables.specs.Laws.Facts.{true_false, true_or_false, eq_or_ne, lt_or_le}
use Rattle.layout.specs.Memory.{State}
use Rattle.masks.specs.Laws.Columns.{four}
use Rattle.model.proofs.Laws.Tests.{T→, not→}
use Rattle.plan_model.specs.Plans.{RulesRead, rules_in}
use Rattle.plan_fit.specs.Words.{column_call}
use Rattle.plan_fit.specs.Laws.Fits.{call_past, call_off, call_here}
use Rattle.plan_search.specs.Search.{Task}
use Rattle.plan_search.specs.First.{memory_task}
use Rattle.plan_tables.specs.Lookup.{CallSlots, RuleColumns}
use Rattle.plan_tables.specs.Due.{column_stage, rule_stage}
use Rattle.plan_tables.specs.Laws.Lookup.{column_at}
use Rattle.plan_tables.specs.Laws.Due.{stage_none, stage_never, stage_here}

-- CALL c IS THE LAST of rule p
pub record LastCall (s : State) (p c : ℕ) : Type 0 where
  pub column : ℕ
  pub there : column < (rules_in s).columns p
  pub here : (rules_in s).call p column ≡ c
  pub each : (k : ℕ) → k < (rules_in s).columns p
      → ((rules_in s).off ((rules_in s).call p k) ≡ true) ⊎ (((memory_task s).lays ((rules_in s).call p k) ≡ true) × ((rules_in s).call p k ≤ c))

-- one of four is the largest
one_of : (a b d e x : ℕ) → max (max a b) (max d e) ≡ x → (a ≡ x) ⊎ ((b ≡ x) ⊎ ((d ≡ x) ⊎ (e ≡ x)))
one_of a b d e x z =
    ⊎_elim (λ p. inl p) (λ p. inr (⊎_elim (λ q. inl q) (λ q. inr (⊎_elim (λ r. inl r) (λ r. inr (omega arith)) (eq_or_ne d x))) (eq_or_ne b x))) (eq_or_ne a x)

module _ (s : State) (columns calls : List ℕ) (is-columns : RuleColumns s.value.heads s.slots columns) (is-calls : CallSlots s calls) where
  abbrev m : Task
  m = memory_task s

  abbrev R : RulesRead
  R = rules_in s

  -- a call is to be laid by its entry where it is
  pub lays_agree : (c : ℕ) → c < 32 → not (eqb (get_or calls c 0) 0) ≡ m.lays c
  lays_agree c h = ap (λ (n : ℕ). not (eqb n 0)) (is-calls.each c h)

  -- and is not cancelled then
  lays_on : (c : ℕ) → m.lays c ≡ true → R.off c ≡ false
  lays_on c l = not→ (R.off c) (λ off. let e = T→ (R.off c) off in true_false l (rw e refl))

  -- THE STAGE OF A COLUMN
  abbrev stage : ℕ → ℕ → ℕ
  stage p k = column_stage calls (get_or columns (4 * p + k) 0)

  module _ (p k : ℕ) (hp : p < 64) (hk : k < 4) where
    -- it counts, or is none of the rule's, or its call is cancelled
    counts_or : ((k < R.columns p) × (R.off (R.call p k) ≡ false)) ⊎ ((R.columns p ≤ k) ⊎ (R.off (R.call p k) ≡ true))
    counts_or = ⊎_elim (λ h. ⊎_elim (λ off. inr (inr off)) (λ on. inl (h, on)) (true_or_false (R.off (R.call p k)))) (λ past. inr (inl past)) (lt_or_le k (R.columns p))

    counts : k < R.columns p → R.off (R.call p k) ≡ false → get_or columns (4 * p + k) 0 ≡ R.call p k
    counts h on = column_at _ _ columns is-columns p hp k hk ∙ sym (call_here s.value.heads s.slots p k refl h (sym on))

    idle : (R.columns p ≤ k) ⊎ (R.off (R.call p k) ≡ true) → get_or columns (4 * p + k) 0 ≡ 255
    idle o = column_at _ _ columns is-columns p hp k hk ∙ sym (by o (lt_or_le k (R.columns p)))
      where
        by : (R.columns p ≤ k) ⊎ (R.off (R.call p k) ≡ true) → (k < R.columns p) ⊎ (R.columns p ≤ k) → 255 ≡ column_call s.value.heads s.slots p k
        by o (inr past) = call_past s.value.heads s.slots p k refl past
        by (inl past) (inl h) = absurd (omega arith)
        by (inr off) (inl h) = call_off s.value.heads s.slots p k refl h (sym off)

    stage_laid : k < R.columns p → m.lays (R.call p k) ≡ true → stage p k ≡ R.call p k + 1
    stage_laid h l =
        let c = R.call p k in
        rw (counts h (lays_on c l))
        (sym (stage_here calls c (omega arith) (λ z. true_false (lays_agree c (omega arith) ∙ l) (ap not (eq-eqb (get_or calls c 0) 0 z)))))

    stage_blocked : k < R.columns p → R.off (R.call p k) ≡ false → m.lays (R.call p k) ≡ false → stage p k ≡ 64
    stage_blocked h on l =
        let c = R.call p k in
        rw (counts h on)
        (sym (stage_never calls c (omega arith)
        (⊎_elim (λ z. z) (λ n. absurd (true_false (ap not (ne_eqb (get_or calls c 0) 0 n)) (lays_agree c (omega arith) ∙ l))) (eq_or_ne (get_or calls c 0) 0))))

    stage_idle : (R.columns p ≤ k) ⊎ (R.off (R.call p k) ≡ true) → stage p k ≡ 0
    stage_idle o = rw (idle o) (sym (stage_none calls 255 (omega arith)))

    -- what a stage of at most c + 1 says, and where a column has it
    stage_most→ : (c : ℕ) → c < 32 → stage p k ≤ c + 1 → k < R.columns p → (R.off (R.call p k) ≡ true) ⊎ ((m.lays (R.call p k) ≡ true) × (R.call p k ≤ c))
    stage_most→ c hc le h =
        ⊎_elim (λ off. inl off)
        (λ on. inr (⊎_elim (λ l. (l, omega (arith, stage_laid h l))) (λ l. absurd (omega (arith, stage_blocked h on l))) (true_or_false (m.lays (R.call p k)))))
        (true_or_false (R.off (R.call p k)))

    stage_exact→ : (c : ℕ) → c < 32 → stage p k ≡ c + 1 → (k < R.columns p) × (R.call p k ≡ c)
    stage_exact→ c hc e =
        ⊎_elim
        (λ x. (x.0, ⊎_elim (λ l. omega (arith, stage_laid x.0 l)) (λ l. absurd (omega (arith, stage_blocked x.0 x.1 l))) (true_or_false (m.lays (R.call p k)))))
        (λ o. absurd (omega (arith, stage_idle o))) counts_or

    →stage_most : (c : ℕ) → (k < R.columns p → (R.off (R.call p k) ≡ true) ⊎ ((m.lays (R.call p k) ≡ true) × (R.call p k ≤ c))) → stage p k ≤ c + 1
    →stage_most c each =
        ⊎_elim
        (λ x. ⊎_elim (λ off. absurd (true_false off x.1)) (λ y. let le = y.1 in omega (arith, stage_laid x.0 y.0)) (each x.0))
        (λ o. omega (arith, stage_idle o)) counts_or

  stage_of : (p : ℕ) → rule_stage calls columns p ≡ max (max (stage p 0) (stage p 1)) (max (stage p 2) (stage p 3))
  unfolding rule_stage
  stage_of p = let e : 4 * p + 0 ≡ 4 * p = omega arith in rw e refl

  -- THE RULE'S LAST CALL IS c exactly where its stage is c + 1
  pub stage→last : (p c : ℕ) → p < 64 → c < 32 → rule_stage calls columns p ≡ c + 1 → LastCall s p c
  stage→last p c hp hc e =
      ⊎_elim (at 0 (omega arith)) (λ o. ⊎_elim (at 1 (omega arith)) (λ o. ⊎_elim (at 2 (omega arith)) (at 3 (omega arith)) o) o)
      (one_of (stage p 0) (stage p 1) (stage p 2) (stage p 3) (c + 1) largest)
    where
      largest : max (max (stage p 0) (stage p 1)) (max (stage p 2) (stage p 3)) ≡ c + 1
      largest = sym (stage_of p) ∙ e

      most : (k : ℕ) → k < 4 → stage p k ≤ c + 1
      most = let z = largest in four (λ k. stage p k ≤ c + 1) (omega arith) (omega arith) (omega arith) (omega arith)

      at : (j : ℕ) → j < 4 → stage p j ≡ c + 1 → LastCall s p c
      at j hj x =
          let y = stage_exact→ p j hp hj c hc x in
          record { column = j; there = y.0; here = y.1; each = λ k hk. stage_most→ p k hp (omega arith) c hc (most k (omega arith)) hk }

  pub last→stage : (p c : ℕ) → p < 64 → m.lays c ≡ true → LastCall s p c → rule_stage calls columns p ≡ c + 1
  last→stage p c hp l last =
      let j = last.column in
      let small : j < 4 = omega (arith, last.there) in
      let most : (k : ℕ) → k < 4 → stage p k ≤ c + 1 = λ k hk. →stage_most p k hp hk c (last.each k) in
      let a = most 0 (omega arith) in
      let b = most 1 (omega arith) in
      let d = most 2 (omega arith) in
      let e = most 3 (omega arith) in
      let here : stage p j ≡ c + 1 = stage_laid p j hp small last.there (rw last.here l) ∙ ap (λ (x : ℕ). x + 1) last.here in
      stage_of p
      ∙ four (λ j. stage p j ≡ c + 1 → max (max (stage p 0) (stage p 1)) (max (stage p 2) (stage p 3)) ≡ c + 1) (λ x. omega arith) (λ x. omega arith) (λ x. omega arith)
      (λ x. omega arith) j small here
