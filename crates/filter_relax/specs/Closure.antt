-- The closure: a pending rule is scanned, and the other rules on a call of a new visited slot become pending, until none is.
use Rattle.std.specs.Prelude.{◌≡◌, List, ◌⊎◌, Bool, false, not, ℕ, ◌+◌, ◌*◌, ◌/◌, ◌<◌, length, get_or}
use Rattle.tables.specs.Count.{count}
use Rattle.masks.specs.Rules.{OnCalls}
use Rattle.filter_propagate.specs.Rules.{RuleBytes}
use Rattle.filter_propagate.specs.Queue.{IsFlagged, Idle}
use Rattle.filter_propagate.specs.Step.{is_pending}
use Rattle.filter_relax.specs.Reach.{Reach}
use Rattle.filter_relax.specs.Touched.{RuleJustifies, Touched, NoOwnKill, CallsVisited}
use Rattle.layout.specs.Places.{columns_of}
use Rattle.layout.specs.Sizes.{slots_length}

-- what the closure changes: the visited slots, the flags of the calls with a visited slot, and the flags of the pending rules
pub record Traversal : Type 0 where
  pub visited : List Bool
  pub flags : List Bool
  pub pending : List Bool

abbrev pub traversal : List Bool → List Bool → List Bool → Traversal
traversal visited flags pending = record { visited = visited; flags = flags; pending = pending }

-- the measure: a scan sets a visited slot, which may make all 64 rules pending, or it leaves one rule less pending
abbrev pub unsettled : Traversal → ℕ
unsettled x = 65 * count not x.visited + count is_pending x.pending

-- rule p has a column on the call of slot byte j
abbrev pub OnCallOf : RuleBytes → ℕ → ℕ → Type 0
OnCallOf R p j = OnCalls (λ c. c ≡ j / 32) R.scope p (columns_of R.arity p)

-- the lengths of the tables: a flag for each slot, one for each call, and one for each rule
pub record VisitTables (visited flags : List Bool) : Type 0 where
  pub visited_size : length visited ≡ slots_length
  pub flags_size : length flags ≡ 32

pub record Tables (x : Traversal) : Type 0 where
  pub visited : VisitTables x.visited x.flags
  pub pending_size : length x.pending ≡ 64

-- rule q is scanned, and is pending no more: the others on the call of a new visited slot are pending, and those calls are flagged
pub record Expanded (R : RuleBytes) (killers slots : List ℕ) (q : ℕ) (x y : Traversal) : Type 0 where
  pub rule : q < 64
  pub less : unsettled y < unsettled x
  pub sizes : Tables y
  pub stays : (j : ℕ) → IsFlagged x.visited j → IsFlagged y.visited j
  pub full : (i j : ℕ) → RuleJustifies R killers slots q i j → IsFlagged x.visited i → IsFlagged y.visited j
  pub from : (j : ℕ) → IsFlagged y.visited j → Reach (RuleJustifies R killers slots q) (IsFlagged x.visited) j
  pub others : (p : ℕ) → (p ≡ q → ⊥) → IsFlagged x.pending p → IsFlagged y.pending p
  pub fresh : (p j : ℕ) → p < 64 → (p ≡ q → ⊥) → IsFlagged y.visited j → OnCallOf R p j → IsFlagged x.visited j ⊎ IsFlagged y.pending p
  pub calls : CallsVisited x.flags x.visited → CallsVisited y.flags y.visited

-- a rule that is not pending justifies nothing more by a visited slot
abbrev pub Settled : RuleBytes → List ℕ → List ℕ → Traversal → Type 0
Settled R killers slots x = (p : ℕ) → p < 64 → get_or x.pending p false ≡ false → (i j : ℕ) → RuleJustifies R killers slots p i j → IsFlagged x.visited i → IsFlagged x.visited j

-- WHAT THE CLOSURE LEAVES, from the visited of a seed: the visited are exactly the touched slots, the flagged calls are exactly theirs, and no rule is pending
pub record Closed (R : RuleBytes) (killers slots : List ℕ) (old : List Bool) (y : Traversal) : Type 0 where
  pub sizes : Tables y
  pub touched : (j : ℕ) → IsFlagged y.visited j → Touched R killers slots (IsFlagged old) j
  pub all_touched : NoOwnKill R killers slots → (j : ℕ) → Touched R killers slots (IsFlagged old) j → IsFlagged y.visited j
  pub calls : CallsVisited y.flags y.visited
  pub idle : Idle y.pending
