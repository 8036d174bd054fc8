-- The scan says which calls have a new slot, and so which rules become pending.
use Rattle.filter_propagate.specs.Rules.{rules_in}
use Rattle.filter_relax.proofs.Laws.Closure.{expanded}
use Rattle.filter_relax.proofs.closure.expand.Goals as goal

pub returns : goal.returns
returns c =
    expanded (rules_in c.args.rows.now c.args.heads.now) _ _ _ _ _ _ c.requires.rules_on c.requires.q_bound c.requires.has (search) c.scan_rule-changed.ensures c.enqueue.ensures
