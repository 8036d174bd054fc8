-- One row more is treated in each turn.
use Rattle.filter_support.specs.Laws.Walk.{walked_none, walked_more}
use Rattle.filter_support.proofs.rows.revise_rows.Goals as goal

pub loop-w-init : goal.loop-w-init
loop-w-init c = walked_none _ _ _ _

pub loop-w-preserved : goal.loop-w-preserved
loop-w-preserved c = walked_more _ _ _ c.loop-w.invariant c.revise_row-found.ensures
