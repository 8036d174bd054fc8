-- The four digits are the parts of the number's decimal, and there is room for each after the ones before it.
use Rattle.sheet_lines.proofs.Laws.Append.{append_more, append_same}
use Rattle.sheet_lines.proofs.Laws.Digits.{decimal_parts_lem}
use Rattle.sheet_lines.proofs.write_decimal.Goals as goal

pub returns : goal.returns
returns c =
    append_same (decimal_parts_lem _ c.requires.n_lt_decimal_end).same
    (append_more c.write_digit-a.ensures (append_more c.write_digit-b.ensures (append_more c.write_digit-c.ensures c.write_byte.ensures)))
