-- WRONG BOARDS: what is said of a board to show that the promise turns it away.
use Rattle.std.specs.Prelude.{List, map, ℕ}
use Rattle.model.specs.Ledger.{member}
use Rattle.model.specs.Promise.{Answer, Promise}
use Rattle.model.specs.Lists.{After}
use Rattle.model.specs.Samples.{Sample}
use Rattle.layout.specs.Memory.{Whole}

-- A SAMPLE'S LAST COMMAND, on any state that its other commands reach by the promise, with any answer and state after it that the promise allows
pub record Last (x : Sample) (s : Whole) (given : Answer) (s' : Whole) : Type 0 where
  pub first : List ℕ
  pub reached : After first (map member x.before) s
  pub promise : Promise s x.last given s'
