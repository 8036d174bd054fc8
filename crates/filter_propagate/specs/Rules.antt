-- The rules as bytes, and what propagation changes.
use Rattle.std.specs.Prelude.{◌≡◌, List, Bool, ℕ, ◌<◌}
use Rattle.layout.specs.Places.{call_of}
use Rattle.layout.specs.declared.value.Heads.{Heads}

-- the rules as bytes: their rows, and the heads with their numbers of columns, their calls and their numbers of rows
pub record RuleBytes : Type 0 where
  pub rows : List ℕ
  pub arity : List ℕ
  pub scope : List ℕ
  pub lengths : List ℕ

abbrev pub bytes_of : List ℕ → List ℕ → List ℕ → List ℕ → RuleBytes
bytes_of rows arity scope lengths = record { rows = rows; arity = arity; scope = scope; lengths = lengths }

-- those that a function is lent
abbrev pub rules_in : List ℕ → Heads → RuleBytes
rules_in rows heads = bytes_of rows heads.arity heads.scope heads.lengths

-- what propagate changes: the killers, the slots, and the flags of the pending rules
pub record Progress : Type 0 where
  pub killers : List ℕ
  pub slots : List ℕ
  pub pending : List Bool

abbrev pub reached : List ℕ → List ℕ → List Bool → Progress
reached killers slots pending = record { killers = killers; slots = slots; pending = pending }

-- the calls of the first n columns of rule p are pairwise different
abbrev pub Distinct : List ℕ → ℕ → ℕ → Type 0
Distinct scope p n = (j k : ℕ) → j < n → k < n → call_of scope p j ≡ call_of scope p k → j ≡ k
