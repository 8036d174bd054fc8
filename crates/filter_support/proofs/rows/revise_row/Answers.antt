-- The row's slots, its killer, and what is found with it.
use Rattle.std.proofs.Common.{arith}
use Rattle.filter_support.specs.Laws.Walk.{row_walked}
use Rattle.filter_support.proofs.rows.revise_row.Goals as goal

pub returns : goal.returns
returns c =
    row_walked _ _ _ _ _ _ _ _ c.row_slots-row.ensures c.first_meeting-first.ensures c.killer_now-now.ensures c.with_row.ensures (omega arith)
