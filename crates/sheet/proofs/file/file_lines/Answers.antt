-- The arrays and the value are the fresh state's.
use Rattle.layout.specs.Laws.Memory.{filled}
use Rattle.layout.specs.Sizes.{marks_length}
use Rattle.model.proofs.Laws.Fresh.{fresh_marked_lem}
use Rattle.sheet.proofs.file.file_lines.Goals as goal

pub fresh_lines-requires-clause-represents_marked : goal.fresh_lines-requires-clause-represents_marked
fresh_lines-requires-clause-represents_marked c = rw c.fresh.ensures (fresh_marked_lem _ (filled marks_length 0).size)
