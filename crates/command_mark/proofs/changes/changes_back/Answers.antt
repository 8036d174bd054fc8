-- The mark's slots are a part of its bytes; what they reopen is what the others would strike.
use Rattle.layout.specs.Marks.{slots_start}
use Rattle.command_mark.specs.Laws.Changes.{counted_between}
use Rattle.command_mark.proofs.changes.changes_back.Goals as goal

pub returns : goal.returns
returns c =
    let start = c.args in
    counted_between start.marks.now (slots_start start.name) start.slots.now c.count_struck-struck.ensures c.count_struck-reopened.ensures
