-- Which rules are pending, and which become pending.
use Rattle.std.specs.Prelude.{◌≡◌, List, Bool, true, false, ℕ, ◌<◌, get_or, set, replicate}
use Rattle.layout.specs.Places.{columns_of}
use Rattle.masks.specs.Rules.{OnCalls}

abbrev pub IsFlagged : List Bool → ℕ → Type 0
IsFlagged flags i = get_or flags i false ≡ true

-- entry j is rule q, which is not p and has a column on a call of C
abbrev pub Enqueued : (ℕ → Type 0) → List ℕ → List ℕ → ℕ → ℕ → ℕ → Type 0
Enqueued C arity scope p q j = (j ≡ q) × (q ≡ p → ⊥) × OnCalls C scope q (columns_of arity q)

-- only rule p is pending
abbrev pub only_rule : ℕ → List Bool
only_rule p = set (replicate 64 false) p true

-- no rule is pending
abbrev pub Idle : List Bool → Type 0
Idle pending = (q : ℕ) → q < 64 → get_or pending q false ≡ false
