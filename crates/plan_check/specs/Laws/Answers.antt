-- WHAT THE QUESTION'S FUNCTION SHOWS of its answer, to meet its promise: the first of its checks that holds is the refusal, and where none does the answer is the lowest
-- broken rule. Assumes nothing.
use Rattle.std.specs.Prelude.{◌≡◌, refl, Bool, true, false, List, ◌≢◌, ℕ, ◌<◌, ◌≤◌, length, get_or, eqb, Option, Some, None, Ok, Err}
use Rattle.std.proofs.Common.{sym, ◌∙◌, arith, lt-ltb, ne_eqb, eqb-true}
use Rattle.std.proofs.lemmas.Bool.{not-false}
use Rattle.layout.specs.Memory.{State, lent_of}
use Rattle.layout.specs.Sizes.{rows_length, killers_length, slots_length}
use Rattle.model.specs.Tests.{some?}
use Rattle.model.specs.Refusals.{number, first_of}
use Rattle.model.specs.Numbers as numbers
use Rattle.model.proofs.Laws.Refusals.{none_holds}
use Rattle.model.proofs.Laws.Shapes.{lent_sizes}
use Rattle.model.proofs.Laws.Tests.{→T}
use Rattle.model.proofs.Laws.Search.{NoneBelow}
use Rattle.model.proofs.Laws.Questions.{first_found, first_none}
use Rattle.model.specs.declared.refusal.Refusal.{Refusal}
use Rattle.model.specs.declared.refusal.Refusal.TheVariants as refused
use Rattle.plan_model.specs.Plans.{plan_size, slot_in, slots_on_in, RulesRead, rules_in, breaks?, lowest_broken}
use Rattle.plan_model.specs.Check.{broken_answer, wrong_byte?, wrong_plan?, plan_checks, PlanPromise}
use Rattle.plan_model.proofs.Laws.Check.{plan_promise}

module _ (s : State) (bytes : List ℕ) where
  refused_under : (f : Refusal) → number f ≡ first_of (plan_checks s bytes) → PlanPromise s bytes (Err f)
  refused_under f e = plan_promise s bytes (Err f) e

  -- A BUFFER is not as long as it has to be
  pub rows_refused : length s.rows ≢ rows_length → PlanPromise s bytes (Err refused.BufferLength)
  rows_refused n = refused_under refused.BufferLength (rw (ne_eqb (length s.rows) rows_length n) refl)

  pub killers_refused : length s.rows ≡ rows_length → length s.killers ≢ killers_length → PlanPromise s bytes (Err refused.BufferLength)
  killers_refused r n = refused_under refused.BufferLength (rw (r, ne_eqb (length s.killers) killers_length n) refl)

  pub slots_refused : length s.rows ≡ rows_length → length s.killers ≡ killers_length → length s.slots ≢ slots_length → PlanPromise s bytes (Err refused.BufferLength)
  slots_refused r k n = refused_under refused.BufferLength (rw (r, k, ne_eqb (length s.slots) slots_length n) refl)

  -- or each is
  module _ (r : length s.rows ≡ rows_length) (k : length s.killers ≡ killers_length) (l : length s.slots ≡ slots_length) where
    pub length_refused : length bytes ≢ plan_size → PlanPromise s bytes (Err refused.PlanLength)
    length_refused n = refused_under refused.PlanLength (rw (r, k, l, ne_eqb (length bytes) plan_size n) refl)

    module _ (z : length bytes ≡ plan_size) where
      pub board_refused : get_or s.value.heads.counts 0 0 ≡ 0 → PlanPromise s bytes (Err refused.NoBoard)
      board_refused e = refused_under refused.NoBoard (rw (r, k, l, z, e) refl)

      module _ (n : get_or s.value.heads.counts 0 0 ≢ 0) {wrong : Bool} (is : wrong ≡ wrong_plan? (slots_on_in s) bytes) where
        pub byte_refused : wrong ≡ true → PlanPromise s bytes (Err refused.BadPlanByte)
        byte_refused e = refused_under refused.BadPlanByte (rw (r, k, l, z, ne_eqb (get_or s.value.heads.counts 0 0) 0 n, sym is ∙ e) refl)

        -- THE ANSWER is the lowest broken rule, where nothing is refused
        pub plan_given : wrong ≡ false → {found : Option ℕ} → found ≡ broken_answer (lowest_broken (rules_in s) bytes) → PlanPromise s bytes (Ok found)
        plan_given right {found} lowest =
            plan_promise s bytes (Ok found) (rw (r, k, l, z, ne_eqb (get_or s.value.heads.counts 0 0) 0 n, sym is ∙ right) refl, lowest)

-- THE LENGTHS behind checks that refuse nothing
module _ (s : State) (bytes : List ℕ) {n : ℕ} (e : n ≡ first_of (plan_checks s bytes)) where
  pub rows_size : n ≡ 0 → length s.rows ≡ rows_length
  rows_size z = (lent_sizes (lent_of s) (none_holds (plan_checks s bytes) tt (sym e ∙ z) numbers.buffer_length)).0

  pub plan_size_lem : n ≡ 0 → length bytes ≡ plan_size
  plan_size_lem z = eqb-true (length bytes) plan_size (not-false (eqb (length bytes) plan_size) (none_holds (plan_checks s bytes) tt (sym e ∙ z) numbers.plan_length))

-- THE LOOP OVER THE BYTES, when it is through
module _ (held : ℕ → ℕ) (bytes : List ℕ) where
  abbrev pub wrong_at : ℕ → Bool
  wrong_at c = wrong_byte? (held c) (slot_in bytes c)

  pub wrong_all : {c : ℕ} {wrong : Bool} → wrong ≡ some? c wrong_at → c ≡ plan_size → wrong ≡ wrong_plan? held bytes
  unfolding wrong_plan?
  wrong_all e all = rw all at e

-- THE LOOP OVER THE RULES: the first that is broken, or none
module _ (R : RulesRead) (bytes : List ℕ) {p : ℕ} (none : NoneBelow (breaks? R bytes) p) where
  pub lowest_found : p < 64 → true ≡ breaks? R bytes p → p ≡ lowest_broken R bytes
  unfolding lowest_broken
  lowest_found h e = sym (first_found 64 (breaks? R bytes) p h (→T (breaks? R bytes p) (sym e)) none.none)

  pub lowest_none : p ≤ 64 → 64 ≤ p → 64 ≡ lowest_broken R bytes
  unfolding lowest_broken
  lowest_none h k = let all : p ≡ 64 = omega arith in sym (first_none 64 (breaks? R bytes) (rw all at none.none))

  -- and the answer by it
  pub broken_found : p < 64 → true ≡ breaks? R bytes p → Some p ≡ broken_answer (lowest_broken R bytes)
  broken_found h e = rw (← lowest_found h e, lt-ltb p 64 h) refl

  pub broken_none : p ≤ 64 → 64 ≤ p → None ≡ broken_answer (lowest_broken R bytes)
  broken_none h k = rw (← lowest_none h k) refl
