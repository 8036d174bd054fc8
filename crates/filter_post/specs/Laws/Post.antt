-- A write leaves the buffers' lengths as they were. Assumes nothing.
use Rattle.std.proofs.Common.{◌∙◌}
use Rattle.std.specs.Prelude.{List, ℕ}
use Rattle.layout.specs.declared.value.RuleData.{RuleData}
use Rattle.filter_propagate.specs.Rules.{RuleBytes}
use Rattle.filter_post.specs.Write.{RuleWritten}
use Rattle.layout.specs.Bounds.{Sizes}

-- a write leaves the buffers' lengths as they were
pub written_sizes : {p : ℕ} {rule : RuleData} {killers slots : List ℕ} {R R' : RuleBytes} → RuleWritten p rule R R' → Sizes R.rows killers slots
    → Sizes R'.rows killers slots
written_sizes w s = record { rows_size = w.rows_size ∙ s.rows_size; killers_size = s.killers_size; slots_size = s.slots_size }
