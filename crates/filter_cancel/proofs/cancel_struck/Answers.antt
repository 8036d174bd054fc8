-- What the call's struck slots touched reopens, the call is withdrawn and propagation follows, and the other calls' slots are counted: `reworked` joins them.
use Rattle.filter_propagate.specs.Rules.{rules_in}
use Rattle.filter_cancel.specs.Laws.Done.{reworked}
use Rattle.filter_cancel.proofs.cancel_struck.Goals as goal

pub returns : goal.returns
returns c =
    reworked {R = rules_in c.args.rows.now c.args.heads.now} c.requires.c_bound c.requires.seeding c.relax-relaxed.ensures c.strike_without-again.ensures c.count_others.ensures
