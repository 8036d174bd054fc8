-- The search finds a row of these slots among the first m.
use Rattle.std.proofs.Common.{◌∙◌, rules, tests, arith}
use Rattle.std.proofs.lemmas.Iterator.{YieldsList-from_range}
use Rattle.std.proofs.lemmas.Iterator.Search.{any_from_yields_List}
use Rattle.command_draft.specs.Fields.{same_row?}
use Rattle.command_draft.proofs.Laws.Lists.{any_below}
use Rattle.command_draft.proofs.fields.row_in_draft.Goals as goal

pub returns : goal.returns
returns c =
    let a = c.args in
    let same = same_row? a.rows.now a.slots.now a.n in
    any_from_yields_List same _ _ _ c.any.ensures.ran (YieldsList-from_range 0 a.m a.m (cc) (omega arith)) (λ x b q k. search (rules, tests))
    ∙ any_below same a.m
