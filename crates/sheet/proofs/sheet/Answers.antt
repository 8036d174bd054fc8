-- A buffer that is too short is refused; in any other the last line is written behind the others.
use Rattle.std.proofs.Common.{ltb-false}
use Rattle.sheet.specs.Laws.Whole.{sheet_written}
use Rattle.sheet.proofs.sheet.Goals as goal

pub returns : goal.returns
returns c =
    sheet_written _ _ _ _ _ _ (ltb-false _ _ c.in_ok-when.ensures) c.input_lines-place.ensures c.end_line.ensures
