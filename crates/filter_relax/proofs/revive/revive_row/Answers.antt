-- The killer's byte goes where the row's killer bit is not 0, which says that the killer's slot is in the sets.
use Rattle.std.proofs.Common.{arith}
use Rattle.tables.specs.Laws.Sweep.{one_set}
use Rattle.filter_relax.proofs.Laws.Revive.{row_revived}
use Rattle.filter_relax.proofs.revive.revive_row.Goals as goal

pub returns : goal.returns
returns c =
    rw c.killer_left.ensures (one_set 0 _ _ _ _ _ (omega arith) (row_revived c.row_slots-row.ensures c.killer_bit-hit.ensures))
