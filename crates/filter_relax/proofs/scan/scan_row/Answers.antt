-- The killer's bit says whether the row's slots join.
use Rattle.filter_relax.proofs.Laws.Scan.{row_scanned}
use Rattle.filter_relax.proofs.scan.scan_row.Goals as goal

pub returns : goal.returns
returns c = row_scanned _ c.row_slots-row.ensures c.killer_bit-hit.ensures c.with_hit.ensures
