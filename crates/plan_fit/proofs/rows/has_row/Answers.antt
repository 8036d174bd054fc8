-- None of the rows of the parts before this one matches.
use Rattle.std.proofs.Common.{◌≡◌, ◌+◌, ◌*◌, ◌-◌, ◌%◌, arith}
use Rattle.plan_fit.specs.Laws.Rows.{part_passes, part_fails, part_last}
use Rattle.plan_fit.proofs.rows.has_row.Goals as goal

pub returns-then-has_row_between : goal.returns-then-has_row_between
returns-then-has_row_between c =
    rw (← c.cap-held.ensures) (part_passes c.has_row_between.ensures c.cap-held.result (omega arith) c.if-has_row_between.true)

pub loop-part-preserved : goal.loop-part-preserved
loop-part-preserved c =
    let next : 16 * (c.loop-part.part + 1) ≡ 16 * c.loop-part.part + 16 = omega arith in
    rw next (part_fails c.has_row_between.ensures c.loop-part.invariant c.if-has_row_between.false)

pub returns : goal.returns
returns c =
    let all : 16 * c.loop-part.part ≡ c.cap-held.result - c.cap-held.result % 16 = omega arith in
    rw (← c.cap-held.ensures) (part_last c.has_row_between-2.ensures (rw all at c.loop-part.invariant))
