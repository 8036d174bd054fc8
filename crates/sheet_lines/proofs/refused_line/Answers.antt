-- The three calls write the parts of the line, and there is room for each after the ones before it.
use Rattle.std.proofs.Common.{[], ◌∷◌}
use Rattle.sheet_lines.proofs.Laws.Append.{append_more, append_same}
use Rattle.sheet_lines.proofs.Laws.Lines.{line_parts_lem}
use Rattle.sheet_lines.proofs.refused_line.Goals as goal

pub returns : goal.returns
returns c =
    append_same (line_parts_lem 114 c.args.kind (c.args.number ∷ [])).same
    (append_more c.write_start-a.ensures (append_more c.write_spaced-b.ensures c.write_byte.ensures))
