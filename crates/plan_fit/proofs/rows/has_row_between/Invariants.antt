-- The rows from the first on and below w are looked at.
use Rattle.plan_fit.specs.Words.{row_matches?, SomeBetween}
use Rattle.plan_fit.proofs.rows.has_row_between.Given as goal

abbrev pub invariant-loop-w : goal.invariant-loop-w
invariant-loop-w l = SomeBetween (row_matches? l.rows l.p l.mask l.wanted) l.from l.w l.found
