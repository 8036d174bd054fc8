-- A call with a struck slot is cancelled with what its slots touched; one without has none in its seed, and is only withdrawn.
use Rattle.std.proofs.Common.{inl}
use Rattle.filter_cancel.specs.Laws.Done.{struck_seeding, quiet}
use Rattle.filter_cancel.proofs.cancel.Goals as goal

pub returns-then-calls-eq0 : goal.returns-then-calls-eq0
returns-then-calls-eq0 c =
    inl (quiet c.args.slots.now c.args.c c.slots_below-mask.ensures c.visit_call-calls.ensures c.if-calls-eq0.true c.withdraw.ensures)

pub cancel_struck-requires-clause-seeding : goal.cancel_struck-requires-clause-seeding
cancel_struck-requires-clause-seeding c =
    struck_seeding c.args.slots.now c.args.c c.slots_below-mask.ensures c.visit_call-calls.ensures
