-- At most one of the four sets is not empty, that of the killer's column.
use Rattle.filter_relax.proofs.Laws.Scan.{killer_bits}
use Rattle.filter_relax.proofs.scan.killer_bit.Goals as goal

pub returns : goal.returns
returns c =
    killer_bits _ _ _
    c.set_where.ensures
    c.set_where-2.ensures
    c.set_where-3.ensures
    c.set_where-4.ensures
