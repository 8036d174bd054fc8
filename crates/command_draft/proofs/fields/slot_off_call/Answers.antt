-- The search finds a column among the first n whose slot is off its call.
use Rattle.std.proofs.Common.{◌∙◌, rules, tests, arith}
use Rattle.std.proofs.lemmas.Iterator.{YieldsList-from_range}
use Rattle.std.proofs.lemmas.Iterator.Search.{any_from_yields_List}
use Rattle.command_draft.specs.Fields.{slot_off?}
use Rattle.command_draft.proofs.Laws.Lists.{any_below}
use Rattle.command_draft.proofs.fields.slot_off_call.Goals as goal

pub returns : goal.returns
returns c =
    let a = c.args in
    let off = slot_off? a.counts.now a.scope.now a.slots.now in
    any_from_yields_List off _ _ _ c.any.ensures.ran (YieldsList-from_range 0 a.n a.n (cc) (omega arith)) (λ x b q k. search (rules, tests))
    ∙ any_below off a.n
