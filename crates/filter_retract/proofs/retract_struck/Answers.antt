-- What the rule touched reopens, the rule is cleared, and propagation follows: `reworked` joins them.
use Rattle.filter_retract.specs.Laws.Done.{reworked}
use Rattle.filter_retract.proofs.retract_struck.Goals as goal

pub returns-clause-reworked : goal.returns-clause-reworked
returns-clause-reworked c =
    reworked c.requires.seeding c.relax-relaxed.ensures c.strike_again-again.ensures.struck_again c.saturating_sub.ensures
