-- The sets are the visited slots of the rule's calls, so that the killers that go are those on a visited slot.
use Rattle.filter_relax.proofs.Laws.Revive.{rule_freed}
use Rattle.filter_relax.proofs.revive.revive_rule.Goals as goal

pub returns : goal.returns
returns c =
    rule_freed _ c.args.visited.now _ c.cap-n.ensures c.cap-m.ensures c.column_sets-sets.ensures
    c.revive_columns.ensures
