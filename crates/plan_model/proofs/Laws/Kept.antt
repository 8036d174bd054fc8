-- WHAT AN ANSWER THAT KEEPS THE PROMISE SAYS (SCOPE 5.7, 5.8), whatever code gave it: on a state that is a ledger's, of bytes that pass the checks. Assumes nothing.
use Rattle.std.specs.Prelude.{◌≡◌, refl, List, ◌↔◌, ℕ, ◌<◌, length, Some, None, Ok, Err}
use Rattle.std.proofs.Common.{ap, ⊎_elim, arith}
use Rattle.tables.specs.Laws.Facts.{eq_or_ne, lt_or_le}
use Rattle.layout.specs.Places.{cause_of, killer_of}
use Rattle.layout.specs.Memory.{State, lent_of}
use Rattle.model.specs.Board.{Board, FullPlan}
use Rattle.model.specs.Records.{Struck}
use Rattle.model.specs.Ledger.{Ledger, LedgerShape}
use Rattle.model.specs.Representation.{Represents}
use Rattle.model.specs.Refusals.{first_of}
use Rattle.model.proofs.Laws.Theory.{on_live, plan_open}
use Rattle.plan_model.specs.Plans.{slot_in}
use Rattle.plan_model.specs.Check.{plan_conditions, PlanCheck, BreaksRule, LowestBroken, PlanMeans, PlanPromise}

-- a full plan breaks no rule
full_breaks_none : (B : Board) (chosen : ℕ → ℕ) (p : ℕ) → FullPlan B chosen → BreaksRule B chosen p → ⊥
full_breaks_none B chosen p full b = let row = full.keeps p b.rule b.force b.column b.active in b.never row.0 row.1 row.2

-- and no rule below the lowest that is broken is
none_lower : (B : Board) (chosen : ℕ → ℕ) (p q : ℕ) → LowestBroken B chosen q → p < q → BreaksRule B chosen p → ⊥
none_lower B chosen p q low lt b = let row = low.lowest p b.rule lt b.force b.column b.active in b.never row.0 row.1 row.2

-- OF ONE BOARD AND ONE PLAN ONLY ONE ANSWER IS RIGHT
pub one_plan_answer : (B : Board) (bytes : List ℕ) (a b : PlanCheck) → PlanMeans B bytes a → PlanMeans B bytes b → a ≡ b
one_plan_answer B bytes (Ok None) (Ok None) m n = refl
one_plan_answer B bytes (Ok None) (Ok (Some q)) m n = absurd (full_breaks_none B (slot_in bytes) q m n.broken)
one_plan_answer B bytes (Ok None) (Err k) m n = absurd n
one_plan_answer B bytes (Ok (Some p)) (Ok None) m n = absurd (full_breaks_none B (slot_in bytes) p n m.broken)
one_plan_answer B bytes (Ok (Some p)) (Ok (Some q)) m n =
    ⊎_elim (λ (e : p ≡ q). let answer : ℕ → PlanCheck = λ p. Ok (Some p) in ap answer e)
    (λ (differ : p ≡ q → ⊥).
    ⊎_elim (λ lt. absurd (none_lower B (slot_in bytes) p q n lt m.broken))
    (λ le. absurd (none_lower B (slot_in bytes) q p m (omega (arith, differ)) n.broken)) (lt_or_le p q))
    (eq_or_ne p q)
one_plan_answer B bytes (Ok (Some p)) (Err k) m n = absurd n
one_plan_answer B bytes (Err k) b m n = absurd m

module _ (L : Ledger) (shape : LedgerShape L) (s : State) (rep : Represents L s) (bytes : List ℕ) (passes : first_of (plan_conditions L (lent_of s) bytes) ≡ 0)
    (given : PlanCheck) (promise : PlanPromise s bytes given) where
  -- KEPT EXACTLY WHERE THE PLAN IS FULL
  pub kept_exactly : (given ≡ Ok None) ↔ FullPlan L.board (slot_in bytes)
  kept_exactly = go given ((promise.answered L shape rep).means passes)
    where
      go : (a : PlanCheck) → PlanMeans L.board bytes a → (a ≡ Ok None) ↔ FullPlan L.board (slot_in bytes)
      go (Ok None) m = (λ e. m, λ f. refl)
      go (Ok (Some p)) m =
          (λ e. let x : ◌≡◌ {A = ℕ} 0 1 = cc in absurd (omega arith), λ f. absurd (full_breaks_none L.board (slot_in bytes) p f m.broken))
      go (Err k) m = absurd m

  -- A PLAN THAT USES A STRUCK SLOT IS NEVER KEPT: some rule is named that it breaks
  pub struck_broken : (c : ℕ) → c < length L.board.counts → Struck L.board (cause_of s.slots) c (slot_in bytes c)
      → (p : ℕ) × (given ≡ Ok (Some p)) × LowestBroken L.board (slot_in bytes) p
  struck_broken c h struck = go given ((promise.answered L shape rep).means passes)
    where
      go : (a : PlanCheck) → PlanMeans L.board bytes a → (p : ℕ) × (a ≡ Ok (Some p)) × LowestBroken L.board (slot_in bytes) p
      go (Ok None) full =
          let live = on_live L.board c (slot_in bytes c) struck.0 in
          let o = plan_open L.board (cause_of s.slots) (killer_of s.killers) rep.stored.recorded (slot_in bytes) shape.board full c h live in
          let low = struck.1 in
          absurd (omega (arith, o.1))
      go (Ok (Some p)) m = (p, refl, m)
      go (Err k) m = absurd m
