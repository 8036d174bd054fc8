-- A revision of one rule, and a step of propagate: a pending rule is revised, and the other rules on a call where a slot was struck become pending.
use Rattle.std.specs.Prelude.{List, Bool, false, ℕ, ◌+◌, ◌*◌, ◌<◌, set}
use Rattle.tables.specs.Sweep.{Swept}
use Rattle.tables.specs.Assign.{Flagged, Below}
use Rattle.tables.specs.Count.{count}
use Rattle.tables.specs.Masks.{IsMask}
use Rattle.filter_propagate.specs.Rules.{RuleBytes, Progress}
use Rattle.filter_support.specs.Rows.{Killed, Unsupported}
use Rattle.filter_support.specs.Strikes.{is_open, SlotsStruck, ColumnWith, StruckOn}
use Rattle.filter_propagate.specs.Queue.{Enqueued, IsFlagged}
use Rattle.layout.specs.Places.{columns_of, rows_of}

-- rule p is revised: its living rows with a struck slot are killed, and then its r open slots without a support are struck
pub record Revised (R : RuleBytes) (p r : ℕ) (killers killed slots struck : List ℕ) : Type 0 where
  pub kills : Swept 0 (Killed R.rows slots R.scope p (columns_of R.arity p)) (64 * p) (rows_of R.lengths p) killers killed
  pub strikes :
      SlotsStruck
      (Below (ColumnWith (Unsupported R.rows killed p (rows_of R.lengths p)) R.scope p) (columns_of R.arity p))
      p
      r
      slots
      struck

-- the same, and `calls` is the mask of the calls where a slot was struck
pub record Revision (R : RuleBytes) (p r calls : ℕ) (killers killed slots struck : List ℕ) : Type 0 where
  pub revised : Revised R p r killers killed slots struck
  pub calls_struck : IsMask (StruckOn slots struck) 32 calls

-- a step: the pending rule p is revised, and is pending no more; the other rules on a call where a slot was struck are pending
pub record Stepped (R : RuleBytes) (p r : ℕ) (x y : Progress) : Type 0 where
  pub rule : p < 64
  pub was : IsFlagged x.pending p
  pub revised : Revised R p r x.killers y.killers x.slots y.slots
  pub queue : Flagged (Below (Enqueued (StruckOn x.slots y.slots) R.arity R.scope p) 64) (set x.pending p false) y.pending

abbrev pub is_pending : Bool → Bool
is_pending b = b

-- the measure of propagate: a step strikes a slot, which may make all 64 rules pending, or it leaves one rule less pending
abbrev pub remaining : Progress → ℕ
remaining x = 65 * count is_open x.slots + count is_pending x.pending
