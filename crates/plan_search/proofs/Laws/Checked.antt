-- A PLAN THAT IS FOUND IS KEPT BY THE CHECK (SCOPE 5.7, 5.9): its bytes pass 32 and 33, and it is full. Assumes nothing.
use Rattle.std.specs.Prelude.{◌≡◌, refl, Bool, true, false, cond, List, ◌⊎◌, ℕ, ◌<◌, ◌≤◌, length, None, Ok}
use Rattle.std.proofs.Common.{sym, ap, ◌∙◌, inl, inr, arith, ne_eqb}
use Rattle.std.proofs.Math.ListN.{get_or-eq_default}
use Rattle.std.proofs.lemmas.Bool.{lt-leb}
use Rattle.tables.specs.Laws.Facts.{lt_or_le}
use Rattle.layout.specs.Memory.{State, lent_of}
use Rattle.layout.specs.Sizes.{bad_lent?}
use Rattle.model.specs.Board.{Board, slots_on, cancelled_on?, Cancelled, no_slot_given, FullPlan}
use Rattle.model.specs.Ledger.{Ledger, LedgerShape, no_board?}
use Rattle.model.specs.Representation.{Represents}
use Rattle.model.specs.Refusals.{first_of, number_of}
use Rattle.model.specs.Questions.{board_conditions}
use Rattle.model.specs.Numbers as refused
use Rattle.model.proofs.Laws.Tests.{T→, T?}
use Rattle.model.proofs.Laws.Search.{none_all}
use Rattle.model.proofs.Laws.Theory.{not_live}
use Rattle.model.proofs.Laws.Refusals.{none_holds}
use Rattle.plan_model.specs.Plans.{plan_size, slot_in}
use Rattle.plan_model.specs.Check.{bad_plan_length?, wrong_byte?, wrong_plan?, plan_conditions, PlanCheck, PlanPromise}
use Rattle.plan_model.proofs.Laws.Kept.{kept_exactly}
use Rattle.plan_search.specs.declared.answer.FirstPlan.TheVariants as first
use Rattle.plan_search.specs.declared.answer.FirstPlan.{FirstPlan}
use Rattle.model.specs.declared.refusal.Refusal.{Refusal}
use Rattle.std.specs.Prelude as answer
use Rattle.plan_search.specs.First.{FoundFirst, FirstPromise}
use Rattle.plan_search.proofs.Laws.Exactly.{found_is_first}

-- THE BYTES OF A FULL PLAN pass 33, where those of calls that are not on the board are 255
module _ (B : Board) (bytes : List ℕ) (full : FullPlan B (slot_in bytes)) (blank : (c : ℕ) → length B.counts ≤ c → slot_in bytes c ≡ no_slot_given) where
  byte_passes : (c : ℕ) → wrong_byte? (slots_on B c) (slot_in bytes c) ≡ false
  byte_passes c = go (lt_or_le c (length B.counts)) (T? (cancelled_on? B c))
    where
      none_due : slots_on B c ≡ 0 → slot_in bytes c ≡ no_slot_given → wrong_byte? (slots_on B c) (slot_in bytes c) ≡ false
      none_due e b = rw (e, b) refl

      past : (off : Bool) → ◌≡◌ {A = ℕ} (cond off 0 0) 0
      past true = refl
      past false = refl

      go : (c < length B.counts) ⊎ (length B.counts ≤ c) → Cancelled B c ⊎ (Cancelled B c → ⊥) → wrong_byte? (slots_on B c) (slot_in bytes c) ≡ false
      go (inl lt) (inl gone) = none_due (rw (T→ (cancelled_on? B c) gone) refl) (full.absent c gone)
      go (inl lt) (inr there) =
          let on = full.gives c lt (not_live B c there) in
          rw (ne_eqb (slots_on B c) 0 (λ e. omega arith), lt-leb (slots_on B c) (slot_in bytes c) on) refl
      go (inr le) d = none_due (rw (get_or-eq_default B.counts 0 le) (past (cancelled_on? B c))) (blank c le)

  bytes_pass : wrong_plan? (slots_on B) bytes ≡ false
  unfolding wrong_plan?
  bytes_pass = (none_all {f = λ c. wrong_byte? (slots_on B c) (slot_in bytes c)} {n = plan_size} (λ c h. byte_passes c)).none

-- FOUND, SO KEPT, of any answer and any check that keep their promises
module _ (L : Ledger) (shape : LedgerShape L) (s : State) (rep : Represents L s) (ceiling : ℕ) (given : answer.Result FirstPlan Refusal) (promise : FirstPromise s ceiling given)
    (n : ℕ) (plan : List ℕ) (is : given ≡ Ok (first.Found n plan)) where
  not_refused : first_of (board_conditions L (lent_of s)) ≡ 0
  not_refused = sym (promise.answered L shape rep).number ∙ ap number_of is

  found_so : FoundFirst L.board ceiling plan n
  found_so = found_is_first L shape s rep not_refused ceiling given promise n plan is

  plan_passes : first_of (plan_conditions L (lent_of s) plan) ≡ 0
  plan_passes =
      let clear = none_holds (board_conditions L (lent_of s)) tt not_refused in
      let lent : bad_lent? (lent_of s) ≡ false = clear refused.buffer_length in
      let board : no_board? L ≡ false = clear refused.no_board in
      let size : bad_plan_length? plan ≡ false = rw found_so.size refl in
      let right = bytes_pass L.board plan found_so.fulfils found_so.blank in
      rw (lent, size, board, right) refl

  pub found_kept : (check : PlanCheck) → PlanPromise s plan check → check ≡ Ok None
  found_kept check kept = (kept_exactly L shape s rep plan plan_passes check kept).1 found_so.fulfils
