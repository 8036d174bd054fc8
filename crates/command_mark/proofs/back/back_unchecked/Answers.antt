-- What is counted, the bytes and the outcome are the definition's.
use Rattle.layout.specs.Marks.{marked_slots}
use Rattle.command_mark.specs.Laws.Changes.{between_few}
use Rattle.command_mark.specs.Laws.Kinds.{brings_back}
use Rattle.command_mark.proofs.back.back_unchecked.Goals as goal

pub back_outcome-requires : goal.back_outcome-requires
back_outcome-requires c =
    between_few {before = c.args.slots.now} {after = marked_slots c.args.marks.now c.from-place.result} c.changes_back-changes.ensures

pub returns : goal.returns
returns c =
    let a = c.args in
    rw c.from-place.ensures at
    (brings_back c.from-place.result a.names.now a.marks.now a.slots.now c.heads_under-heads.ensures c.changes_back-changes.ensures c.bring_back.ensures
    c.back_outcome.ensures)
