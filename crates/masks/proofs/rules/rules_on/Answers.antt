-- The rules on the calls that are not left are gathered; the lowest of those left is next.
use Rattle.std.proofs.Common.{arith}
use Rattle.masks.specs.Laws.Rules.{gathered_none, gathered_more, gathered_all}
use Rattle.masks.proofs.rules.rules_on.Goals as goal

pub loop-left-init : goal.loop-left-init
loop-left-init c = gathered_none _ _ (omega arith)

pub loop-left-preserved : goal.loop-left-preserved
loop-left-preserved c = gathered_more c.loop-left-test.true c.loop-left.invariant

pub returns : goal.returns
returns c = gathered_all c.loop-left-test.false c.loop-left.invariant
