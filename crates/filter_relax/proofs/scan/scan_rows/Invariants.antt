-- One row more is treated in each round.
use Rattle.filter_relax.specs.Scan.{Scanned}
use Rattle.filter_relax.proofs.scan.scan_rows.Given as goal

abbrev pub invariant-loop-w : goal.invariant-loop-w
invariant-loop-w l = Scanned l.rows l.killers l.sets l.q l.w l.found
