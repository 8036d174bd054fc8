-- A rule that struck something is retracted with what it touched; one that struck nothing has no slot in its seed, and is only cleared.
use Rattle.std.proofs.Common.{inl}
use Rattle.filter_propagate.specs.Rules.{rules_in}
use Rattle.filter_retract.specs.Laws.Done.{caused_seeding, quiet}
use Rattle.filter_retract.proofs.retract.Goals as goal

pub returns-then-calls-eq0-clause-done : goal.returns-then-calls-eq0-clause-done
returns-then-calls-eq0-clause-done c =
    inl (quiet (rules_in c.args.rows.now c.args.heads.now) c.cap-n.ensures c.visit_seed-calls.ensures c.if-calls-eq0.true c.clear_rule.ensures.cleared)

pub retract_struck-requires-clause-seeding : goal.retract_struck-requires-clause-seeding
retract_struck-requires-clause-seeding c =
    caused_seeding (rules_in c.args.rows.now c.args.heads.now) c.cap-n.ensures c.visit_seed-calls.ensures
