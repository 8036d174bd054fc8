-- The first 0 stands behind the counts of the calls.
use Rattle.std.proofs.Common.{◌∙◌, arith, rules, tests, eqb}
use Rattle.std.proofs.lemmas.Iterator.{YieldsList-from_slice}
use Rattle.std.proofs.lemmas.Iterator.Search.{position_from_yields_List}
use Rattle.sheet_lines.proofs.Laws.Counts.{zero_found}
use Rattle.sheet_lines.proofs.call_count.Goals as goal

pub returns : goal.returns
returns c =
    c.unwrap_or.ensures
    ∙ zero_found c.args.counts.now c.position.result (omega arith)
    (position_from_yields_List (λ n. eqb n 0) _ _ _ c.position.ensures.ran (YieldsList-from_slice c.args.counts.now cc) (λ x b q k. search (rules, tests)))
