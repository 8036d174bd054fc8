-- One row more is treated in each round.
use Rattle.filter_relax.proofs.Laws.Scan.{scanned_none}
use Rattle.filter_relax.proofs.scan.scan_rows.Goals as goal

pub loop-w-init : goal.loop-w-init
loop-w-init c = scanned_none _ _ _ _
