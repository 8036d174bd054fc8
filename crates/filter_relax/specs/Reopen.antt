-- Reopening: the bytes of the visited slots become 255, and the slots are counted.
use Rattle.std.specs.Prelude.{◌≡◌, List, Bool, ℕ, length, get_or}
use Rattle.tables.specs.Count.{count}
use Rattle.filter_propagate.specs.Queue.{IsFlagged}
use Rattle.filter_relax.specs.Spread.{is_visited}

-- every byte may be written
abbrev pub AnyByte : ℕ → Type 0
AnyByte x = Unit

-- WHAT REOPENING LEAVES: the visited slots are open, all others what they held; t is the number of visited
pub record Reopened (t : ℕ) (visited : List Bool) (old new : List ℕ) : Type 0 where
  pub size : length new ≡ length old
  pub opened : (j : ℕ) → IsFlagged visited j → get_or new j 0 ≡ 255
  pub kept : (j : ℕ) → (IsFlagged visited j → ⊥) → get_or new j 0 ≡ get_or old j 0
  pub total : t ≡ count is_visited visited
