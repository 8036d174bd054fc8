-- The four calls write the parts of the line, and there is room for each after the ones before it.
use Rattle.sheet_lines.proofs.Laws.Append.{append_more, append_same}
use Rattle.sheet_lines.proofs.Laws.Lines.{accepted_parts_lem}
use Rattle.sheet_lines.proofs.accepted_line.Goals as goal

pub returns : goal.returns
returns c =
    append_same (accepted_parts_lem c.args.kind c.args.struck c.args.reopened).same
    (append_more c.write_start-a.ensures (append_more c.write_spaced-b.ensures (append_more c.write_spaced-c.ensures c.write_byte.ensures)))
