-- The search finds the call at k among those before it.
use Rattle.std.specs.Prelude.{ℕ, get_or, eqb}
use Rattle.std.proofs.Common.{ap, ◌∙◌, arith}
use Rattle.model.specs.Tests.{some?}
use Rattle.command_draft.proofs.Laws.Lists.{any_first}
use Rattle.tables.specs.Laws.Facts.{any_default}
use Rattle.command_draft.proofs.fields.call_before.Goals as goal

pub returns : goal.returns
returns c =
    let scope = c.args.scope.now in
    let k = c.args.k in
    c.contains.ensures.value ∙ any_first (λ (x : ℕ). eqb x (get_or scope k 0)) 255 k scope (omega arith) ∙ ap (λ (x : ℕ). some? k (λ j. eqb (get_or scope j 255) x)) (any_default 0 255 scope k (omega arith))
