-- The search finds a call among the first n that is there before.
use Rattle.std.proofs.Common.{◌∙◌, rules, tests, arith}
use Rattle.std.proofs.lemmas.Iterator.{YieldsList-from_range}
use Rattle.std.proofs.lemmas.Iterator.Search.{any_from_yields_List}
use Rattle.command_draft.specs.Fields.{call_before?}
use Rattle.command_draft.proofs.Laws.Lists.{any_below}
use Rattle.command_draft.proofs.fields.call_twice.Goals as goal

pub returns : goal.returns
returns c =
    any_from_yields_List (call_before? c.args.scope.now) _ _ _ c.any.ensures.ran (YieldsList-from_range 0 c.args.n c.args.n (cc) (omega arith)) (λ x b q k. search (rules, tests))
    ∙ any_below (call_before? c.args.scope.now) c.args.n
