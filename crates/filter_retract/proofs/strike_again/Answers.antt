-- The rule is cleared, in the bytes and in the table of the rules on each call, and propagation follows.
use Rattle.filter_retract.specs.Laws.Done.{struck_again}
use Rattle.filter_retract.proofs.strike_again.Goals as goal

pub returns-clause-struck_again : goal.returns-clause-struck_again
returns-clause-struck_again c =
    struck_again c.clear_rule.ensures.cleared c.requires.p_bound c.without.ensures c.propagate.ensures
