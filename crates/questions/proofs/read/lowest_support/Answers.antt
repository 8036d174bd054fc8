-- The loop's invariant: none of the rows passed supports the slot, so the first that does is the first of all.
use Rattle.std.proofs.Common.{rules}
use Rattle.questions.specs.Parts.{length_parts}
use Rattle.questions.proofs.Laws.Answers.{row_found}
use Rattle.questions.proofs.read.lowest_support.Goals as goal

pub returns-then-supports : goal.returns-then-supports
returns-then-supports c =
    let a = c.args in
    row_found (length_parts a.lengths.now a.rows.now a.killers.now) a.rule a.column a.slot (search rules) (rw c.supports.ensures at c.if-supports.true) c.loop-row.invariant.1
