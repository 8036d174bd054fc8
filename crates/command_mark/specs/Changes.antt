-- S AND R BETWEEN TWO BOARDS' SLOT BYTES (SCOPE 3.7). The two may have cancelled other calls: a cancelled call's byte is neither an open nor a struck slot's, so its slots
-- are in neither.
use Rattle.std.specs.Prelude.{◌≡◌, List, ℕ, ◌+◌, ◌≤◌}
use Rattle.model.specs.Report.{struck_between, reopened_between}
use Rattle.layout.specs.Sizes.{slots_length}
use Rattle.command_mark.specs.declared.changes.Changes.{Changes}

pub record Between (before after : List ℕ) (r : Changes) : Type 0 where
  pub struck : r.struck ≡ struck_between before after
  pub reopened : r.reopened ≡ reopened_between before after

-- no slot is both
pub record Few (r : Changes) : Type 0 where
  pub together : r.struck + r.reopened ≤ slots_length
