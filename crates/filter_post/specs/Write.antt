-- What writing one rule does to the bytes of the rules.
use Rattle.std.specs.Prelude.{◌≡◌, List, ◌≢◌, ℕ, ◌<◌, length, get_or}
use Rattle.layout.specs.declared.value.RuleData.{RuleData}
use Rattle.filter_propagate.specs.Rules.{RuleBytes}
use Rattle.layout.specs.Places.{own_place, row_place, scope_place}

-- entry i becomes that of the list from
abbrev pub Copied : List ℕ → ℕ → ℕ → ℕ → Type 0
Copied from i old new = new ≡ get_or from i 0

-- the bytes of rule q are the same
pub record SameRule (R R' : RuleBytes) (q : ℕ) : Type 0 where
  pub arity : get_or R'.arity q 0 ≡ get_or R.arity q 0
  pub lengths : get_or R'.lengths q 0 ≡ get_or R.lengths q 0
  pub scope : (k : ℕ) → k < 4 → get_or R'.scope (scope_place q k) 0 ≡ get_or R.scope (scope_place q k) 0
  pub bytes : (w k : ℕ) → w < 64 → k < 4 → get_or R'.rows (row_place q w k) 0 ≡ get_or R.rows (row_place q w k) 0

-- THE RULE IS WRITTEN under number p: the bytes there are its data; every other rule, and every length, is as it was
pub record RuleWritten (p : ℕ) (rule : RuleData) (R R' : RuleBytes) : Type 0 where
  pub arity : get_or R'.arity p 0 ≡ rule.arity
  pub lengths : get_or R'.lengths p 0 ≡ rule.length
  pub scope : (k : ℕ) → k < 4 → get_or R'.scope (scope_place p k) 0 ≡ get_or rule.scope k 0
  pub bytes : (w k : ℕ) → w < 64 → k < 4 → get_or R'.rows (row_place p w k) 0 ≡ get_or rule.rows (own_place w k) 0
  pub other : (q : ℕ) → q ≢ p → SameRule R R' q
  pub rows_size : length R'.rows ≡ length R.rows
  pub arity_size : length R'.arity ≡ length R.arity
  pub scope_size : length R'.scope ≡ length R.scope
  pub lengths_size : length R'.lengths ≡ length R.lengths
