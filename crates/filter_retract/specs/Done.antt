-- A RETRACTION OVER THE BYTES: where the rule struck nothing it is only cleared; else what it touched reopens, the rule is cleared, and propagation strikes again.
use Rattle.std.specs.Prelude.{◌≡◌, List, ◌⊎◌, Bool, false, ℕ, ◌*◌, ◌-◌, set}
use Rattle.tables.specs.Sweep.{Becomes, Swept}
use Rattle.filter_propagate.specs.Rules.{RuleBytes, reached}
use Rattle.filter_propagate.specs.Steps.{Propagated}
use Rattle.filter_relax.specs.Touched.{Seeded}
use Rattle.filter_relax.specs.Relaxed.{Relaxed}
use Rattle.filter_post.specs.Write.{RuleWritten}
use Rattle.layout.specs.Places.{columns_of}
use Rattle.layout.specs.Value.{empty_rule}

-- RULE p IS CLEARED: it is the empty rule, and its killers are 255
pub record RuleCleared (p : ℕ) (R R' : RuleBytes) (killers killers' : List ℕ) : Type 0 where
  pub written : RuleWritten p empty_rule R R'
  pub killers_empty : Swept 0 (Becomes 255) (64 * p) 64 killers killers'

-- the slots whose cause is p, which are the seed
abbrev pub CausedBy : ℕ → RuleBytes → List ℕ → ℕ → Type 0
CausedBy p R slots = Seeded slots R.scope p (columns_of R.arity p)

-- rule p is cleared, and of the rules that are pending all but p are revised, until none is: `again` slots are struck
pub record StruckAgain (p again : ℕ) (pending : List Bool) (R R' : RuleBytes) (killers killers' slots slots' : List ℕ) : Type 0 where
  pub emptied : List ℕ
  pub cleared : RuleCleared p R R' killers emptied
  pub flags : List Bool
  pub propagated : Propagated R' again (reached emptied slots (set pending p false)) (reached killers' slots' flags)

-- no slot has the cause p: the slots stay
pub record Quiet (p : ℕ) (R R' : RuleBytes) (killers killers' slots slots' : List ℕ) (reopened touched : ℕ) : Type 0 where
  pub none : (j : ℕ) → CausedBy p R slots j → ⊥
  pub cleared : RuleCleared p R R' killers killers'
  pub slots_same : slots' ≡ slots
  pub none_reopened : reopened ≡ 0
  pub none_touched : touched ≡ 0

-- the touched slots reopen, and `again` of them are struck again
pub record Reworked (p : ℕ) (R R' : RuleBytes) (killers killers' slots slots' : List ℕ) (reopened touched : ℕ) : Type 0 where
  pub revived : List ℕ
  pub opened : List ℕ
  pub visited : List Bool
  pub pending : List Bool
  pub relaxed : Relaxed R (CausedBy p R slots) touched killers revived slots opened visited pending
  pub emptied : List ℕ
  pub cleared : RuleCleared p R R' revived emptied
  pub again : ℕ
  pub flags : List Bool
  pub propagated : Propagated R' again (reached emptied opened (set pending p false)) (reached killers' slots' flags)
  pub difference : reopened ≡ touched - again

abbrev pub RetractDone : ℕ → RuleBytes → RuleBytes → List ℕ → List ℕ → List ℕ → List ℕ → ℕ → ℕ → Type 0
RetractDone p R R' killers killers' slots slots' reopened touched =
    Quiet p R R' killers killers' slots slots' reopened touched ⊎ Reworked p R R' killers killers' slots slots' reopened touched
