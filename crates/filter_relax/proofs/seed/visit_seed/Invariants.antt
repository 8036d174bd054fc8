-- The slots of one column's call more are visited in each round.
use Rattle.filter_relax.specs.Touched.{Seeded}
use Rattle.filter_relax.specs.Spread.{Adds}
use Rattle.filter_relax.proofs.seed.visit_seed.Given as goal

abbrev pub invariant-loop-k : goal.invariant-loop-k
invariant-loop-k l = Adds (Seeded l.slots l.scope l.p l.k) l.initial.visited l.visited 0 l.calls
