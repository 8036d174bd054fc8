-- What a relaxation leaves, from a seed of visited slots.
use Rattle.std.specs.Prelude.{◌≡◌, List, Bool, ℕ, ◌<◌, length, get_or}
use Rattle.tables.specs.Count.{count}
use Rattle.masks.specs.Rules.{OnCalls}
use Rattle.filter_propagate.specs.Rules.{RuleBytes}
use Rattle.filter_propagate.specs.Queue.{IsFlagged}
use Rattle.filter_relax.specs.Touched.{Touched, NoOwnKill, HasVisited}
use Rattle.filter_relax.specs.Spread.{is_visited}
use Rattle.filter_relax.specs.Revive.{Freed}
use Rattle.layout.specs.Places.{columns_of, killer_of}
use Rattle.layout.specs.Sizes.{slots_length}

-- rule q has a column on the call of a visited slot
abbrev pub OnVisited : RuleBytes → List Bool → ℕ → Type 0
OnVisited R visited q = OnCalls (HasVisited visited) R.scope q (columns_of R.arity q)

-- THE RELAXATION from Seed, of the killers and slots before to those after:
-- the visited are exactly the touched slots (all of them where no rule kills its own rows by its own strikes);
-- these slots are open, all others hold what they held, and t is their number;
-- the killers on them are 255, all others what they were;
-- and the pending rules are exactly those with a column on the call of one of them
pub record Relaxed (R : RuleBytes) (Seed : ℕ → Type 0) (t : ℕ) (killers revived slots reopened : List ℕ) (visited pending : List Bool) : Type 0 where
  pub visited_size : length visited ≡ slots_length
  pub touched : (j : ℕ) → IsFlagged visited j → Touched R killers slots Seed j
  pub all_touched : NoOwnKill R killers slots → (j : ℕ) → Touched R killers slots Seed j → IsFlagged visited j
  pub slots_size : length reopened ≡ length slots
  pub slot_opened : (j : ℕ) → IsFlagged visited j → get_or reopened j 0 ≡ 255
  pub slot_kept : (j : ℕ) → (IsFlagged visited j → ⊥) → get_or reopened j 0 ≡ get_or slots j 0
  pub total : t ≡ count is_visited visited
  pub killers_size : length revived ≡ length killers
  pub row_revived : (q w : ℕ) → q < 64 → w < 64 → Freed R visited q w (killer_of killers q w) → killer_of revived q w ≡ 255
  pub row_kept : (q w : ℕ) → q < 64 → w < 64 → (Freed R visited q w (killer_of killers q w) → ⊥) → killer_of revived q w ≡ killer_of killers q w
  pub pending_size : length pending ≡ 64
  pub enqueued : (q : ℕ) → q < 64 → OnVisited R visited q → IsFlagged pending q
  pub only_enqueued : (q : ℕ) → q < 64 → IsFlagged pending q → OnVisited R visited q
