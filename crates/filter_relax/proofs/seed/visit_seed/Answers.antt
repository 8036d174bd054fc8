-- The slots of one column's call more are visited in each round.
use Rattle.filter_relax.proofs.Laws.Spread.{adds_more}
use Rattle.filter_relax.proofs.Laws.Seed.{adds_caused}
use Rattle.filter_relax.proofs.seed.visit_seed.Goals as goal

pub loop-k-preserved : goal.loop-k-preserved
loop-k-preserved c =
    adds_more _ c.loop-k.invariant (rw c.from-c.ensures at (adds_caused _ _ _ c.slots_with-mask.ensures c.visit_call-calls.ensures))
