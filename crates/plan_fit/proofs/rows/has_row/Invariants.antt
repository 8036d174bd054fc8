-- None of the rows of the parts before this one matches.
use Rattle.std.proofs.Common.{◌*◌}
use Rattle.model.proofs.Laws.Search.{NoneBelow}
use Rattle.plan_fit.specs.Words.{row_matches?}
use Rattle.plan_fit.proofs.rows.has_row.Given as goal

abbrev pub invariant-loop-part : goal.invariant-loop-part
invariant-loop-part l = NoneBelow (row_matches? l.rows l.p l.mask l.wanted) (16 * l.part)
