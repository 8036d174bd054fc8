-- The slots with the cause q, without those that are visited.
use Rattle.std.proofs.Common.{arith}
use Rattle.filter_relax.proofs.Laws.Scan.{column_wanted}
use Rattle.filter_relax.proofs.scan.column_wanted.Goals as goal

pub returns-then-k-n : goal.returns-then-k-n
returns-then-k-n c =
    column_wanted _ _ _ _ _ _ (omega arith) (omega (arith, c.set_difference.type_inv))
    (rw c.from-c.ensures at c.slots_with.ensures)
    (rw c.from-c.ensures at c.set_difference.ensures)
