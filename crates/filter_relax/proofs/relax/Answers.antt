-- The closure, the reopening, the pending rules and the reviving: `relaxed` joins the four.
use Rattle.filter_propagate.specs.Rules.{rules_in}
use Rattle.filter_relax.proofs.Laws.Relaxed.{relaxed}
use Rattle.filter_relax.proofs.relax.Goals as goal

pub returns : goal.returns
returns c =
    relaxed (rules_in c.args.rows.now c.args.heads.now) _ _ c.close-seen.ensures c.reopen_calls-touched.ensures c.requires.rules_on c.rules_on-pending.ensures c.revive_rules.ensures
