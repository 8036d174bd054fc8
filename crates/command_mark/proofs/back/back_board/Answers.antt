-- What is refused, and when, is the check's; what is brought back is the stepped ledger's.
use Rattle.layout.specs.Memory.{marked_memory}
use Rattle.command_mark.specs.Laws.Kinds.{back_refused, back_accepted, back_known}
use Rattle.command_mark.proofs.back.back_board.Goals as goal

pub returns-in-Err : goal.returns-in-Err
returns-in-Err c =
    let a = c.args in
    rw c.refused.ensures (back_refused a.name (marked_memory a.value a.names.now a.rows.now a.killers.now a.slots.now a.marks.now) _ c.in-Err.ensures)

pub back_unchecked-requires : goal.back_unchecked-requires
back_unchecked-requires c = back_known c.args.value.heads.counts c.args.names.now c.args.name c.in_default.ensures

pub returns : goal.returns
returns c =
    let a = c.args in
    back_accepted a.name (marked_memory a.value a.names.now a.rows.now a.killers.now a.slots.now a.marks.now) _ _ c.in_default.ensures
    (back_known a.value.heads.counts a.names.now a.name c.in_default.ensures) c.back_unchecked.ensures
