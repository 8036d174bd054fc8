-- One column's slots more are visited in each round.
use Rattle.filter_relax.specs.Spread.{ColumnMask, Adds}
use Rattle.tables.specs.Assign.{Below}
use Rattle.filter_relax.proofs.scan.visit_columns.Given as goal

abbrev pub invariant-loop-k : goal.invariant-loop-k
invariant-loop-k l = Adds (Below (ColumnMask l.scope l.q l.new) l.k) l.initial.visited l.visited 0 l.calls
