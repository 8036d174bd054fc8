-- The search finds a call off the board among the first n.
use Rattle.std.proofs.Common.{◌∙◌, take, rules, tests, arith}
use Rattle.std.proofs.lemmas.Iterator.{YieldsList-from_slice}
use Rattle.std.proofs.lemmas.Iterator.Search.{any_from_yields_List}
use Rattle.command_draft.specs.Fields.{off_board?}
use Rattle.command_draft.proofs.Laws.Lists.{any_first}
use Rattle.command_draft.proofs.fields.call_off_board.Goals as goal

pub returns : goal.returns
returns c =
    any_from_yields_List (off_board? c.args.counts.now) _ _ _ c.any.ensures.ran (YieldsList-from_slice (take c.args.n c.args.scope.now) cc) (λ x b q k. search (rules, tests))
    ∙ any_first (off_board? c.args.counts.now) 255 c.args.n c.args.scope.now (omega arith)
