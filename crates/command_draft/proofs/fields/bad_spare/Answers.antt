-- The search finds a field past the first n that is not 255.
use Rattle.std.specs.Prelude.{ℕ, ◌-◌, take, drop, not, eqb}
use Rattle.std.proofs.Common.{◌∙◌, rules, tests, arith}
use Rattle.std.proofs.lemmas.Iterator.{YieldsList-from_slice}
use Rattle.std.proofs.lemmas.Iterator.Search.{any_from_yields_List}
use Rattle.command_draft.proofs.Laws.Lists.{any_past}
use Rattle.command_draft.proofs.fields.bad_spare.Goals as goal

pub returns : goal.returns
returns c =
    let spare = λ (x : ℕ). not (eqb x 255) in
    any_from_yields_List spare _ _ _ c.any.ensures.ran (YieldsList-from_slice (take (4 - c.args.n) (drop c.args.n c.args.fields.now)) c.iter.ensures.rest) (λ x b q k. search (rules, tests))
    ∙ any_past spare 255 c.args.n 4 c.args.fields.now (omega arith)
