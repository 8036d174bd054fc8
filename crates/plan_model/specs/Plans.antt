-- PLANS AGAINST RULES, as tests that compute (SCOPE 1.23, 1.24). They are over the rules as they are read, off a board or off the memory, so that each is said once;
-- Laws.Fits shows that off a board they are what `RowFits`, `KeepsRule` and `FullPlan` of the model say.
use Rattle.std.specs.Prelude.{Bool, not, ◌&&◌, ◌||◌, cond, List, ℕ, length, get_or, eqb}
use Rattle.model.specs.Board.{Board, call_at, slot_at, cancelled_on?, no_slot_given}
use Rattle.model.specs.Representation.{rule_at}
use Rattle.model.specs.Tests.{some?, every?, first}
use Rattle.layout.specs.Places.{columns_of, rows_of, call_of, row_place, cancelled?}
use Rattle.layout.specs.Memory.{State}

-- A PLAN (SCOPE 1.24) is 32 bytes: a slot for each call, and 255 for a call that gets none
abbrev pub plan_size : ℕ
plan_size = 32

abbrev pub slot_in : List ℕ → ℕ → ℕ
slot_in plan c = get_or plan c no_slot_given

-- THE RULES AS READ: of each number the columns, 0 where none is in force, and the rows; the call of a column, and the slot of a row in it; and which calls are cancelled
pub record RulesRead : Type 0 where
  pub columns : ℕ → ℕ
  pub call : ℕ → ℕ → ℕ
  pub rows : ℕ → ℕ
  pub slot : ℕ → ℕ → ℕ → ℕ
  pub off : ℕ → Bool

-- off a board
abbrev pub rules_of : Board → RulesRead
rules_of B =
    record {
      columns = λ p. length (rule_at B p).scope;
      call = λ p k. call_at (rule_at B p) k;
      rows = λ p. length (rule_at B p).rows;
      slot = λ p w k. slot_at (rule_at B p) w k;
      off = cancelled_on? B;
    }

-- off the value and the bytes, whatever they hold
abbrev pub rules_in : State → RulesRead
rules_in s =
    record {
      columns = columns_of s.value.heads.arity;
      call = call_of s.value.heads.scope;
      rows = rows_of s.value.heads.lengths;
      slot = λ p w k. get_or s.rows (row_place p w k) 0;
      off = cancelled? s.slots;
    }

-- A ROW FITS A PLAN: it has the plan's slot in each column whose call is not cancelled
unfoldable pub fits? : RulesRead → List ℕ → ℕ → ℕ → Bool
fits? R plan p w = every? (R.columns p) λ k. R.off (R.call p k) || eqb (R.slot p w k) (slot_in plan (R.call p k))

-- some row of the rule does
unfoldable pub fitted? : RulesRead → List ℕ → ℕ → Bool
fitted? R plan p = some? (R.rows p) (fits? R plan p)

-- a rule binds where the call of some column is not cancelled (SCOPE 1.20)
unfoldable pub binds? : RulesRead → ℕ → Bool
binds? R p = some? (R.columns p) λ k. not (R.off (R.call p k))

-- A PLAN BREAKS A RULE that binds and has no row that fits
unfoldable pub breaks? : RulesRead → List ℕ → ℕ → Bool
breaks? R plan p = binds? R p && not (fitted? R plan p)

-- THE LOWEST NUMBER OF A RULE THAT THE PLAN BREAKS; 64 where it keeps them all
unfoldable pub lowest_broken : RulesRead → List ℕ → ℕ
lowest_broken R plan = first 64 (breaks? R plan)

-- HOW MANY SLOTS A CALL HAS IN A PLAN, off the value and the bytes, as `slots_on` has it off a board: none where it is cancelled or not on the board
abbrev pub slots_on_in : State → ℕ → ℕ
slots_on_in s c = cond (cancelled? s.slots c) 0 (get_or s.value.heads.counts c 0)
