-- The loop has reached only touched slots, and where it ends every rule is settled; what is unsettled falls with each step.
use Rattle.std.proofs.Common.{arith}
use Rattle.filter_relax.proofs.Laws.Closure.{closing_none, closing_more, closed}
use Rattle.filter_relax.proofs.closure.close.Goals as goal

pub loop-q-init : goal.loop-q-init
loop-q-init c =
    (omega arith, closing_none _ _ _ _ _ c.requires.rules_on (search) c.requires.calls_visited c.rules_on-pending.ensures)

pub loop-q-preserved : goal.loop-q-preserved
loop-q-preserved c = (omega arith, closing_more _ _ _ c.loop-q.invariant.1 c.expand-front.ensures)

pub returns : goal.returns
returns c = closed _ _ _ c.in_default.ensures c.loop-q.invariant.1
