-- One column's slots more are visited in each round.
use Rattle.std.proofs.Common.{arith}
use Rattle.filter_relax.proofs.Laws.Spread.{adds_more, adds_at}
use Rattle.filter_relax.proofs.scan.visit_columns.Goals as goal

pub loop-k-preserved : goal.loop-k-preserved
loop-k-preserved c =
    adds_more _ c.loop-k.invariant (rw (c.column.ensures, c.from-c.ensures) at c.visit_call-calls.ensures)

pub returns : goal.returns
returns c = adds_at _ c.loop-k.invariant (omega arith) (omega arith)
