-- The killers of the rules that are not left are treated; the lowest of those left is next.
use Rattle.std.proofs.Common.{arith}
use Rattle.filter_relax.proofs.Laws.Revive.{rules_more, rules_done}
use Rattle.filter_relax.proofs.revive.revive_rules.Goals as goal

pub loop-left-preserved : goal.loop-left-preserved
loop-left-preserved c =
    rules_more _ c.loop-left-test.true c.loop-left.invariant c.revive_rule.ensures

pub returns : goal.returns
returns c = rules_done (omega arith) c.loop-left-test.false c.loop-left.invariant
