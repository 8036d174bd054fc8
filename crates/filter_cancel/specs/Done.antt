-- A CANCELLATION OVER THE BYTES of call c with n slots: where none of them is struck they are only withdrawn; else what the struck ones touched reopens, the call's own are
-- withdrawn, and propagation strikes again.
use Rattle.std.specs.Prelude.{◌≡◌, List, ◌⊎◌, Bool, ℕ, ◌*◌, ◌-◌, ◌/◌, ◌<◌, length, get_or}
use Rattle.tables.specs.Count.{count}
use Rattle.tables.specs.Masks.{flags_of}
use Rattle.tables.specs.Sweep.{Becomes, Swept}
use Rattle.filter_propagate.specs.Rules.{RuleBytes, reached}
use Rattle.filter_propagate.specs.Queue.{IsFlagged}
use Rattle.filter_propagate.specs.Steps.{Propagated}
use Rattle.filter_relax.specs.Spread.{is_visited}
use Rattle.filter_relax.specs.Relaxed.{Relaxed}
use Rattle.layout.specs.Places.{cancelled_byte, slot_place}

-- the slot bytes of call c that are a cause, which are the seed
abbrev pub OwnStruck : List ℕ → ℕ → ℕ → Type 0
OwnStruck slots c j = (s : ℕ) × (s < 32) × (j ≡ slot_place c s) × (get_or slots j 0 < 64)

-- the first n slot bytes of call c are those of a cancelled call, and all others are as they were
abbrev pub Withdrawn : ℕ → ℕ → List ℕ → List ℕ → Type 0
Withdrawn c n slots slots' = Swept 0 (Becomes cancelled_byte) (32 * c) n slots slots'

-- the flags without those of call c
pub record Beside (c : ℕ) (visited others : List Bool) : Type 0 where
  pub size : length others ≡ length visited
  pub has : (j : ℕ) → IsFlagged visited j → (j / 32 ≡ c → ⊥) → IsFlagged others j
  pub only : (j : ℕ) → IsFlagged others j → IsFlagged visited j × (j / 32 ≡ c → ⊥)

-- the call is withdrawn, and the pending rules are revised, until none is: `again` slots are struck
pub record StruckWithout (c n again : ℕ) (pending : List Bool) (R : RuleBytes) (killers killers' slots slots' : List ℕ) : Type 0 where
  pub left : List ℕ
  pub withdrawn : Withdrawn c n slots left
  pub flags : List Bool
  pub propagated : Propagated R again (reached killers left pending) (reached killers' slots' flags)

-- of all that are visited, by the mask of each call, those of call c do not count; and of the others `again` are struck again
pub record OthersCounted (masks : List ℕ) (c all again reopened touched : ℕ) : Type 0 where
  pub less_own : touched ≡ all - count is_visited (flags_of 32 (get_or masks c 0))
  pub less_again : reopened ≡ touched - again

-- no slot of the call is struck: the killers stay
pub record CancelQuiet (c n : ℕ) (killers killers' slots slots' : List ℕ) (reopened touched : ℕ) : Type 0 where
  pub none : (j : ℕ) → OwnStruck slots c j → ⊥
  pub withdrawn : Withdrawn c n slots slots'
  pub killers_same : killers' ≡ killers
  pub none_reopened : reopened ≡ 0
  pub none_touched : touched ≡ 0

-- the touched slots reopen, those of the call are withdrawn, and `again` of the others are struck again. T is the number of touched slots of other calls
pub record CancelReworked (c n : ℕ) (R : RuleBytes) (killers killers' slots slots' : List ℕ) (reopened touched : ℕ) : Type 0 where
  pub revived : List ℕ
  pub opened : List ℕ
  pub visited : List Bool
  pub pending : List Bool
  pub all : ℕ
  pub relaxed : Relaxed R (OwnStruck slots c) all killers revived slots opened visited pending
  pub left : List ℕ
  pub withdrawn : Withdrawn c n opened left
  pub again : ℕ
  pub flags : List Bool
  pub propagated : Propagated R again (reached revived left pending) (reached killers' slots' flags)
  pub others : List Bool
  pub beside : Beside c visited others
  pub total : touched ≡ count is_visited others
  pub difference : reopened ≡ touched - again

abbrev pub CancelDone : ℕ → ℕ → RuleBytes → List ℕ → List ℕ → List ℕ → List ℕ → ℕ → ℕ → Type 0
CancelDone c n R killers killers' slots slots' reopened touched =
    CancelQuiet c n killers killers' slots slots' reopened touched ⊎ CancelReworked c n R killers killers' slots slots' reopened touched
