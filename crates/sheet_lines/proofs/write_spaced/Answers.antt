-- The space and the number's decimal are the whole of it.
use Rattle.std.proofs.Common.{append-nil, sym}
use Rattle.model.specs.Sheet.{decimal}
use Rattle.sheet_lines.proofs.Laws.Append.{append_more, append_same}
use Rattle.sheet_lines.proofs.write_spaced.Goals as goal

pub returns : goal.returns
returns c =
    append_more c.write_byte-a.ensures (append_same (sym (append-nil (decimal c.args.n))) c.write_decimal.ensures)
