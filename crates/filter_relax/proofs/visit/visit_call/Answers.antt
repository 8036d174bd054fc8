-- An empty mask visits nothing, another joins the mask of its call.
use Rattle.std.proofs.Common.{arith}
use Rattle.filter_relax.proofs.Laws.Spread.{adds_zero, adds_mask}
use Rattle.filter_relax.proofs.visit.visit_call.Goals as goal

pub returns-then-mask-eq0 : goal.returns-then-mask-eq0
returns-then-mask-eq0 c = adds_zero _ _ _ _ c.if-mask-eq0.true

pub returns : goal.returns
returns c = adds_mask _ _ _ _ (search) (search) (omega arith) c.if-mask-eq0.false
