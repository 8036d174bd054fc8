-- The letter, and then the number after a space.
use Rattle.sheet_lines.proofs.Laws.Append.{append_more}
use Rattle.sheet_lines.proofs.write_start.Goals as goal

pub returns : goal.returns
returns c =
    append_more c.write_byte-a.ensures c.write_spaced.ensures
