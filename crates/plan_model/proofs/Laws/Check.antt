-- THE EQUATION SAYS WHAT THE ANSWER MEANS, on a state that is a ledger's. Assumes nothing.
use Rattle.std.specs.Prelude.{◌≡◌, refl, true, false, cond, List, [], ◌∷◌, ◌⊎◌, ℕ, ◌<◌, length, eqb, ltb, Bool, Some, None, Ok}
use Rattle.std.proofs.Common.{sym, ap, subst, ◌∙◌, inl, inr, arith, lt-ltb, leb-false, eqb-true, ne_eqb}
use Rattle.std.proofs.lemmas.Bool.{not-false}
use Rattle.tables.specs.Laws.Facts.{true_or_false}
use Rattle.layout.specs.Memory.{State, lent_of}
use Rattle.model.specs.Board.{Board, slots_on, cancelled_on?, Live, Cancelled, OnBoard, no_slot_given, FullPlan, Shape}
use Rattle.model.specs.Tests.{some?, first}
use Rattle.model.specs.Ledger.{Ledger, LedgerShape}
use Rattle.model.specs.Representation.{Represents}
use Rattle.model.specs.Promise.{values_at}
use Rattle.model.specs.Refusals.{first_of, AnsweredBy}
use Rattle.model.specs.Numbers as refused
use Rattle.model.proofs.Laws.Tests.{→T, T→, none_passes}
use Rattle.model.proofs.Laws.Search.{some_same}
use Rattle.model.proofs.Laws.Theory.{numbered, live_on}
use Rattle.model.proofs.Laws.Refusals.{none_holds, answered_number, answered_with, answered_values}
use Rattle.model.proofs.Laws.Heads.{no_calls}
use Rattle.model.proofs.Laws.Questions.{first_some, first_none, first_lowest}
use Rattle.plan_model.specs.Plans.{plan_size, slot_in, slots_on_in, rules_of, rules_in, breaks?, lowest_broken}
use Rattle.plan_model.specs.Check.{wrong_byte?, wrong_plan?, plan_conditions, plan_checks, PlanCheck, plan_values, broken_answer, broken_value, plan_shown, PlanMeans, PlanPromise}
use Rattle.plan_model.proofs.Laws.Fits.{breaks→, kept→}
use Rattle.plan_model.proofs.Laws.Memory.{broken_held, slots_on_held}

-- the value of what is shown
plan_values_lem : (p : ℕ) → plan_values (Ok (broken_answer p)) ≡ broken_value p ∷ []
plan_values_lem p = go (ltb p 64)
  where
    go : (b : Bool) → plan_values (Ok (cond b (Some p) None)) ≡ cond b p 255 ∷ []
    go true = refl
    go false = refl

-- ON A BOARD, of bytes that pass 33
module _ (B : Board) (shape : Shape B) (bytes : List ℕ) (right : wrong_plan? (slots_on B) bytes ≡ false) where
  byte_right : (c : ℕ) → c < plan_size → wrong_byte? (slots_on B c) (slot_in bytes c) ≡ false
  unfolding wrong_plan?
  byte_right c h = none_passes plan_size (λ c. wrong_byte? (slots_on B c) (slot_in bytes c)) right c h

  -- a call that takes part gets a slot of its own,
  gives : (c : ℕ) → c < length B.counts → Live B c → OnBoard B c (slot_in bytes c)
  gives c h l =
      let some : 0 < slots_on B c = live_on B c 0 l (shape.counts c h).0 in
      leb-false (slots_on B c) (slot_in bytes c) (rw (ne_eqb (slots_on B c) 0 (λ e. omega arith)) at (byte_right c (omega (arith, shape.calls))))

  -- and a cancelled one none
  absent : (c : ℕ) → Cancelled B c → slot_in bytes c ≡ no_slot_given
  absent c g =
      let none : slots_on B c ≡ 0 = rw (T→ (cancelled_on? B c) g) refl in
      eqb-true (slot_in bytes c) 255
      (not-false (eqb (slot_in bytes c) 255)
      (subst (λ (n : ℕ). wrong_byte? n (slot_in bytes c) ≡ false) none (byte_right c (omega (arith, shape.cancelled c g, shape.calls)))))

  -- where no rule is broken by the test the plan is full
  none_broken : some? 64 (breaks? (rules_of B) bytes) ≡ false → FullPlan B (slot_in bytes)
  none_broken e =
      record {
        gives = gives;
        absent = absent;
        keeps = λ p r f. kept→ B bytes p (none_passes 64 (breaks? (rules_of B) bytes) e p (rw (← shape.numbers) (numbered B p r f))) r f;
      }

  plan_means : PlanMeans B bytes (Ok (broken_answer (lowest_broken (rules_of B) bytes)))
  unfolding lowest_broken
  plan_means = go (true_or_false (some? 64 f))
    where
      f : ℕ → Bool
      f = breaks? (rules_of B) bytes

      go : (some? 64 f ≡ true) ⊎ (some? 64 f ≡ false) → PlanMeans B bytes (Ok (cond (ltb (first 64 f) 64) (Some (first 64 f)) None))
      go (inl e) =
          let x = first_some 64 f (→T (some? 64 f) e) in
          rw (lt-ltb (first 64 f) 64 x.0)
          (record { broken = breaks→ B bytes (first 64 f) x.1; lowest = λ q r below force. kept→ B bytes q (first_lowest 64 f q (omega (arith, below))) r force })
      go (inr e) = rw (first_none 64 f e) (none_broken e)

-- the checks off the value are the conditions off the ledger
checks_same : (L : Ledger) → LedgerShape L → (s : State) → Represents L s → (bytes : List ℕ) → first_of (plan_checks s bytes) ≡ first_of (plan_conditions L (lent_of s) bytes)
unfolding wrong_plan?
checks_same L shape s rep bytes =
    let board = no_calls L.board shape.board s.value.heads rep.stored.headed in
    let wrong =
    some_same plan_size (λ c. wrong_byte? (slots_on_in s c) (slot_in bytes c)) (λ c. wrong_byte? (slots_on L.board c) (slot_in bytes c))
    (λ c h. ap (λ (n : ℕ). wrong_byte? n (slot_in bytes c)) (slots_on_held L shape s rep c)) in
    rw (board, wrong) refl

pub plan_promise : (s : State) (bytes : List ℕ) (given : PlanCheck) → AnsweredBy (first_of (plan_checks s bytes)) (plan_shown s bytes) given → PlanPromise s bytes given
plan_promise s bytes given by =
    record {
      equation = by;
      answered = λ L shape rep.
          let e = checks_same L shape s rep bytes in
          let held = broken_held L shape s rep bytes in
          record {
            number = answered_number (first_of (plan_checks s bytes)) (plan_shown s bytes) given by ∙ e;
            values = answered_values plan_values (λ f. refl) (first_of (plan_checks s bytes)) (plan_shown s bytes) given by
                ∙ ap (values_at (first_of (plan_checks s bytes))) (plan_values_lem (lowest_broken (rules_in s) bytes))
                ∙ ap (λ (p : ℕ). values_at (first_of (plan_checks s bytes)) (broken_value p ∷ [])) held
                ∙ ap (λ (n : ℕ). values_at n (broken_value (lowest_broken (rules_of L.board) bytes) ∷ [])) e;
            means = λ z.
                let clear = none_holds (plan_conditions L (lent_of s) bytes) tt z in
                subst (PlanMeans L.board bytes)
                (sym (answered_with (first_of (plan_checks s bytes)) (plan_shown s bytes) given by (e ∙ z) ∙ ap (λ (p : ℕ). Ok (broken_answer p)) held))
                (plan_means L.board shape.board bytes (clear refused.bad_plan_byte));
          };
    }
