-- THE SAMPLE PLANS K1 TO K11 (SCOPE 8.42 to 8.52): commands' bytes, a plan, and the number and the values of the answer that is to come of them.
use Rattle.std.specs.Prelude.{List, [], ◌∷◌, ◌++◌, ℕ, ◌-◌, length, replicate}
use Rattle.model.specs.Ledger.{Ledger, lengths}
use Rattle.model.specs.Promise.{values_at}
use Rattle.model.specs.Refusals.{first_of}
use Rattle.model.specs.Samples.{board_bytes, head_bytes, row_bytes, post_bytes, cancel_bytes, p2_before, draft_of_two}
use Rattle.plan_model.specs.Plans.{plan_size, rules_of, lowest_broken}
use Rattle.plan_model.specs.Check.{plan_conditions, broken_value}

-- the plan that gives these slots to the first calls and none to the others
abbrev pub plan_of : List ℕ → List ℕ
plan_of slots = slots ++ replicate (plan_size - length slots) 255

-- number and values of an answer
pub record PlanOutcome : Type 0 where
  pub number : ℕ
  pub values : List ℕ

pub record PlanSample : Type 0 where
  pub commands : List (List ℕ)
  pub bytes : List ℕ
  pub outcome : PlanOutcome

-- what the definitions give
abbrev pub plan_outcome : Ledger → List ℕ → PlanOutcome
plan_outcome L bytes =
    let number = first_of (plan_conditions L lengths.buffers bytes) in
    record { number = number; values = values_at number (broken_value (lowest_broken (rules_of L.board) bytes) ∷ []) }

abbrev pub kept_plan : List (List ℕ) → List ℕ → PlanSample
kept_plan commands bytes = record { commands = commands; bytes = bytes; outcome = record { number = 0; values = 255 ∷ [] } }

abbrev pub broken_plan : List (List ℕ) → List ℕ → ℕ → PlanSample
broken_plan commands bytes rule = record { commands = commands; bytes = bytes; outcome = record { number = 0; values = rule ∷ [] } }

abbrev pub refused_plan : List (List ℕ) → List ℕ → ℕ → PlanSample
refused_plan commands bytes number = record { commands = commands; bytes = bytes; outcome = record { number = number; values = [] } }

-- P2; two calls that have to differ beside a third with slot 0 alone; and the same with call 1 cancelled
abbrev pub p2_commands : List (List ℕ)
p2_commands = p2_before ++ (post_bytes ∷ [])

abbrev pub differing : List (List ℕ)
differing =
    board_bytes (2 ∷ 2 ∷ 2 ∷ []) ∷ head_bytes 0 (0 ∷ 1 ∷ []) ∷ row_bytes (0 ∷ 1 ∷ []) ∷ row_bytes (1 ∷ 0 ∷ []) ∷ post_bytes
    ∷ head_bytes 1 (2 ∷ []) ∷ row_bytes (0 ∷ []) ∷ post_bytes ∷ []

abbrev pub without_one : List (List ℕ)
without_one = differing ++ (cancel_bytes 1 ∷ [])

-- C7: a rule without rows on two calls that are both cancelled
abbrev pub c7_commands : List (List ℕ)
c7_commands = draft_of_two (2 ∷ 2 ∷ 1 ∷ []) ++ (cancel_bytes 0 ∷ cancel_bytes 1 ∷ post_bytes ∷ [])

-- THE LIST
abbrev pub plan_samples : List PlanSample
plan_samples =
    kept_plan p2_commands (plan_of (0 ∷ 1 ∷ 0 ∷ []))
    ∷ broken_plan p2_commands (plan_of (0 ∷ 2 ∷ 0 ∷ [])) 1
    ∷ broken_plan p2_commands (plan_of (1 ∷ 1 ∷ 1 ∷ [])) 0
    ∷ broken_plan differing (plan_of (0 ∷ 0 ∷ 1 ∷ [])) 0
    ∷ kept_plan without_one (plan_of (0 ∷ 255 ∷ 0 ∷ []))
    ∷ kept_plan c7_commands (plan_of (255 ∷ 255 ∷ 0 ∷ []))
    ∷ refused_plan p2_commands (plan_of (0 ∷ 1 ∷ 2 ∷ [])) 33
    ∷ refused_plan p2_commands (plan_of (0 ∷ 255 ∷ 0 ∷ [])) 33
    ∷ refused_plan without_one (plan_of (0 ∷ 1 ∷ 0 ∷ [])) 33
    ∷ refused_plan [] (replicate 31 255) 32
    ∷ refused_plan [] (replicate 32 255) 6
    ∷ []
