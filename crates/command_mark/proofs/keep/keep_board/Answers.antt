-- What is refused, and when, is the check's; what is kept is the stepped ledger's.
use Rattle.layout.specs.Memory.{marked_memory}
use Rattle.command_mark.specs.Laws.Kinds.{keep_refused, keep_accepted, name_known}
use Rattle.command_mark.proofs.keep.keep_board.Goals as goal

pub returns-in-Err : goal.returns-in-Err
returns-in-Err c =
    let a = c.args in
    rw c.refused.ensures (keep_refused a.name (marked_memory a.value a.names.now a.rows.now a.killers.now a.slots.now a.marks.now) _ c.in-Err.ensures)

pub keep_unchecked-requires : goal.keep_unchecked-requires
keep_unchecked-requires c = name_known c.args.value.heads.counts c.args.name c.in_default.ensures

pub returns : goal.returns
returns c =
    let a = c.args in
    keep_accepted a.name (marked_memory a.value a.names.now a.rows.now a.killers.now a.slots.now a.marks.now) _ _ c.in_default.ensures
    (name_known a.value.heads.counts a.name c.in_default.ensures) c.keep_unchecked.ensures
