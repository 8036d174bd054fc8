-- By whether a bit is left above.
use Rattle.std.proofs.lemmas.Nat.{shr_le}
use Rattle.plan_lay.specs.Laws.Steps.{next_none, next_below}
use Rattle.plan_lay.proofs.lay.next_open.Goals as goal

pub returns-then-above-eq0 : goal.returns-then-above-eq0
returns-then-above-eq0 c = next_none _ _ c.requires (rw c.from.ensures at c.if-above-eq0.true)

pub returns : goal.returns
returns c =
    rw c.from.ensures (next_below _ _ c.ranges.mask.fits (rw c.from.ensures at c.if-above-eq0.false) (shr_le c.args.mask c.args.slot))
