-- The seed of a relaxation: the slots that are visited before any other.
use Rattle.std.specs.Prelude.{◌≡◌, List, ℕ, length}
use Rattle.tables.specs.Masks.{flags_of, all_flags}
use Rattle.filter_propagate.specs.Queue.{IsFlagged}
use Rattle.filter_relax.specs.Touched.{CallsVisited}

-- THE VISITED ARE THE SEED, and `calls` is the mask of the calls that have one of them
pub record Seeding (Seed : ℕ → Type 0) (visited : List ℕ) (calls : ℕ) : Type 0 where
  pub size : length visited ≡ 32
  pub has : (j : ℕ) → Seed j → IsFlagged (all_flags 32 visited) j
  pub only : (j : ℕ) → IsFlagged (all_flags 32 visited) j → Seed j
  pub calls_visited : CallsVisited (flags_of 32 calls) (all_flags 32 visited)
