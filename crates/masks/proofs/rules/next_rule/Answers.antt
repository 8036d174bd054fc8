-- The lowest bit above p is a pending rule; where there is none, the lowest of all.
use Rattle.masks.specs.Laws.Rules.{next_lowest, next_above}
use Rattle.masks.proofs.rules.next_rule.Goals as goal

pub returns-then-above-ne0 : goal.returns-then-above-ne0
returns-then-above-ne0 c = next_above _ _ c.ranges.pending.fits c.if-above-ne0.true

pub returns : goal.returns
returns c = next_lowest _ c.ranges.pending.fits c.if-pending-eq0.false
