-- The bytes of a board's rules, as propagation reads them, and what they say of a rule in force.
use Rattle.std.specs.Prelude.{◌≡◌, ℕ, ◌<◌, length, get_or}
use Rattle.model.specs.Board.{Rule, Board, call_at, slot_at}
use Rattle.model.specs.Representation.{rule_at}
use Rattle.filter_propagate.specs.Rules.{RuleBytes}
use Rattle.layout.specs.Places.{columns_of, rows_of, call_of, slot_of, row_cell, row_place, scope_place, slot_place}

-- THE BYTES ARE THOSE OF THE BOARD'S RULES, and those of the empty rule where none is in force
pub record RulesOf (B : Board) (R : RuleBytes) : Type 0 where
  pub arity : (p : ℕ) → p < 64 → get_or R.arity p 0 ≡ length (rule_at B p).scope
  pub scope : (p k : ℕ) → p < 64 → k < 4 → get_or R.scope (scope_place p k) 0 ≡ call_at (rule_at B p) k
  pub lengths : (p : ℕ) → p < 64 → get_or R.lengths p 0 ≡ length (rule_at B p).rows
  pub bytes : (p w k : ℕ) → p < 64 → w < 64 → k < 4 → get_or R.rows (row_place p w k) 0 ≡ slot_at (rule_at B p) w k

-- what propagation reads under the number p is the rule r
pub record ReadAs (R : RuleBytes) (p : ℕ) (r : Rule) : Type 0 where
  pub number : p < 64
  pub columns : columns_of R.arity p ≡ length r.scope
  pub rows : rows_of R.lengths p ≡ length r.rows
  pub call_below : (k : ℕ) → k < length r.scope → call_at r k < 32
  pub call : (k : ℕ) → k < length r.scope → call_of R.scope p k ≡ call_at r k
  pub slot : (w k : ℕ) → w < length r.rows → k < length r.scope → slot_of R.rows p w k ≡ slot_at r w k
  pub place : (w k : ℕ) → w < length r.rows → k < length r.scope → row_cell R.rows R.scope p w k ≡ slot_place (call_at r k) (slot_at r w k)
  -- two columns on one call are one
  pub one_column : (j k : ℕ) → j < length r.scope → k < length r.scope → call_at r j ≡ call_at r k → j ≡ k
