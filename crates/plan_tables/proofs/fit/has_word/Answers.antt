-- The rows before w are looked at.
use Rattle.std.proofs.Common.{◌≡◌, ◌∙◌}
use Rattle.std.proofs.Common.{arith}
use Rattle.model.proofs.Laws.Search.{none_start}
use Rattle.plan_fit.specs.Laws.Rows.{part_last}
use Rattle.plan_tables.proofs.fit.has_word.Goals as goal

pub returns : goal.returns
returns c =
    let all : c.loop-w.w ≡ c.cap-held.result = omega arith in
    part_last (rw (all ∙ c.cap-held.ensures) at c.loop-w.invariant) none_start
