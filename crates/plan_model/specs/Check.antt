-- THE CHECK OF A PLAN FROM ELSEWHERE (SCOPE 5.7, order 10): an equation that holds whatever the memory holds, and what the answer means on a state that is a ledger's.
-- Laws.Check proves that the second follows from the first.
use Rattle.std.specs.Prelude.{◌≡◌, Bool, not, cond, List, [], ◌∷◌, ◌++◌, ℕ, ◌<◌, length, eqb, ltb, leb, Option, Some, None, Result, Ok, Err}
use Rattle.layout.specs.Memory.{State, lent_of}
use Rattle.layout.specs.Sizes.{Lent}
use Rattle.model.specs.Board.{Rule, Board, InForce, Active, RowFits, KeepsRule, FullPlan, slots_on}
use Rattle.model.specs.Tests.{some?}
use Rattle.model.specs.Ledger.{Ledger, LedgerShape, no_board?}
use Rattle.model.specs.Representation.{no_calls?, Represents}
use Rattle.model.specs.Promise.{values_at}
use Rattle.model.specs.Refusals.{first_of, number_of, AnsweredBy}
use Rattle.model.specs.Questions.{asked_conditions}
use Rattle.model.specs.Numbers as refused
use Rattle.model.specs.declared.refusal.Refusal.{Refusal}
use Rattle.plan_model.specs.Plans.{plan_size, slot_in, slots_on_in, rules_of, rules_in, lowest_broken}

-- 32: the plan is not 32 bytes
abbrev pub bad_plan_length? : List ℕ → Bool
bad_plan_length? bytes = not (eqb (length bytes) plan_size)

-- 33, of one byte: a call with slots has to get one of them, struck or not, and one without has to have 255
abbrev pub wrong_byte? : ℕ → ℕ → Bool
wrong_byte? held byte = cond (eqb held 0) (not (eqb byte 255)) (leb held byte)

-- and of all 32, by how many slots each call has
unfoldable pub wrong_plan? : (ℕ → ℕ) → List ℕ → Bool
wrong_plan? held bytes = some? plan_size λ c. wrong_byte? (held c) (slot_in bytes c)

-- THE REFUSALS, off a ledger, in the order of SCOPE 4.3: 1, 32, 6, 33
abbrev pub plan_conditions : Ledger → Lent → List ℕ → List (Bool × ℕ)
plan_conditions L lent bytes =
    asked_conditions lent
    ++ ((bad_plan_length? bytes, refused.plan_length) ∷ (no_board? L, refused.no_board) ∷ (wrong_plan? (slots_on L.board) bytes, refused.bad_plan_byte) ∷ [])

-- the same off the value and the bytes
abbrev pub plan_checks : State → List ℕ → List (Bool × ℕ)
plan_checks s bytes =
    asked_conditions (lent_of s)
    ++ ((bad_plan_length? bytes, refused.plan_length) ∷ (no_calls? s.value.heads.counts, refused.no_board) ∷ (wrong_plan? (slots_on_in s) bytes, refused.bad_plan_byte)
    ∷ [])

-- THE ANSWER: the lowest number of a rule in force that the plan breaks, or none where it keeps them all
abbrev pub PlanCheck : Type 0
PlanCheck = Result (Option ℕ) Refusal

-- its values (SCOPE 10.5): the number of the broken rule; 255, which is no rule's, where the plan is kept
abbrev pub plan_values : PlanCheck → List ℕ
plan_values (Ok None) = 255 ∷ []
plan_values (Ok (Some p)) = p ∷ []
plan_values (Err e) = []

-- the lowest broken rule as an answer, and as a value: 64 stands for none
abbrev pub broken_answer : ℕ → Option ℕ
broken_answer p = cond (ltb p 64) (Some p) None

abbrev pub broken_value : ℕ → ℕ
broken_value p = cond (ltb p 64) p 255

-- off the value and the bytes
abbrev pub plan_shown : State → List ℕ → Option ℕ
plan_shown s bytes = broken_answer (lowest_broken (rules_in s) bytes)

-- a plan BREAKS the rule in force under p: it has an active column, and no row fits
pub record BreaksRule (B : Board) (chosen : ℕ → ℕ) (p : ℕ) : Type 0 where
  pub rule : Rule
  pub force : InForce B p rule
  pub column : ℕ
  pub active : Active B rule column
  pub never : (w : ℕ) → w < length rule.rows → RowFits B chosen rule w → ⊥

-- and no rule in force under a lower number
pub record LowestBroken (B : Board) (chosen : ℕ → ℕ) (p : ℕ) : Type 0 where
  pub broken : BreaksRule B chosen p
  pub lowest : (q : ℕ) (r : Rule) → q < p → InForce B q r → KeepsRule B chosen r

-- what it says of the board: a kept plan is a full one, and else the rule named is the lowest that it breaks
abbrev pub PlanMeans : Board → List ℕ → PlanCheck → Type 0
PlanMeans B bytes (Ok None) = FullPlan B (slot_in bytes)
PlanMeans B bytes (Ok (Some p)) = LowestBroken B (slot_in bytes) p
PlanMeans B bytes (Err e) = ⊥

pub record PlanAnswered (L : Ledger) (s : State) (bytes : List ℕ) (given : PlanCheck) : Type 0 where
  pub number : number_of given ≡ first_of (plan_conditions L (lent_of s) bytes)
  pub values : plan_values given ≡ values_at (first_of (plan_conditions L (lent_of s) bytes)) (broken_value (lowest_broken (rules_of L.board) bytes) ∷ [])
  pub means : first_of (plan_conditions L (lent_of s) bytes) ≡ 0 → PlanMeans L.board bytes given

pub record PlanPromise (s : State) (bytes : List ℕ) (given : PlanCheck) : Type 0 where
  pub equation : AnsweredBy (first_of (plan_checks s bytes)) (plan_shown s bytes) given
  pub answered : (L : Ledger) → LedgerShape L → Represents L s → PlanAnswered L s bytes given
