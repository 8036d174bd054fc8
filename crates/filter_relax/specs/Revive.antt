-- Reviving: the killers whose slot is visited become 255, row by row and rule by rule, so that these rows live.
use Rattle.std.specs.Prelude.{◌≡◌, List, Bool, ℕ, ◌*◌, ◌≤◌, ◌<◌, length, get_or}
use Rattle.masks.specs.declared.columns.Columns.{Columns}
use Rattle.filter_propagate.specs.Rules.{RuleBytes}
use Rattle.filter_propagate.specs.Queue.{IsFlagged}
use Rattle.filter_relax.specs.Touched.{KillerVisited}
use Rattle.filter_relax.specs.Scan.{KillerMet}
use Rattle.layout.specs.Places.{columns_of, rows_of, killer_place}

-- a byte becomes v where P holds, and stays where it does not
pub record Replaced (v : ℕ) (P : Type 0) (old new : ℕ) : Type 0 where
  pub written : P → new ≡ v
  pub kept : (P → ⊥) → new ≡ old

-- the killer byte of row w of rule q, whose slot is in the sets of the columns
abbrev pub MaskRevived : List ℕ → Columns → ℕ → ℕ → ℕ → ℕ → Type 0
MaskRevived rows sets q w old new = Replaced 255 (KillerMet rows sets q w old) old new

-- row w is one of rule q, and the slot of its killer x is visited
pub record Freed (R : RuleBytes) (visited : List Bool) (q w x : ℕ) : Type 0 where
  pub row : w < rows_of R.lengths q
  pub killer : KillerVisited R.rows R.scope visited q (columns_of R.arity q) w x

abbrev pub RuleFreed : RuleBytes → List Bool → ℕ → ℕ → ℕ → ℕ → Type 0
RuleFreed R visited q w old new = Replaced 255 (Freed R visited q w old) old new

-- the same, and rule q is pending
pub record PendingFreed (R : RuleBytes) (visited pending : List Bool) (q w x : ℕ) : Type 0 where
  pub flag : IsFlagged pending q
  pub freed : Freed R visited q w x

abbrev pub RuleRevived : RuleBytes → List Bool → List Bool → ℕ → ℕ → ℕ → ℕ → Type 0
RuleRevived R visited pending q w old new = Replaced 255 (PendingFreed R visited pending q w old) old new

-- the 64 entries of each of the first n rules went by S, and no other changed
pub record Blocks (S : ℕ → ℕ → ℕ → ℕ → Type 0) (n : ℕ) (old new : List ℕ) : Type 0 where
  pub len : length new ≡ length old
  pub inside : (q w : ℕ) → q < n → w < 64 → S q w (get_or old (killer_place q w) 0) (get_or new (killer_place q w) 0)
  pub above : (j : ℕ) → 64 * n ≤ j → get_or new j 0 ≡ get_or old j 0
