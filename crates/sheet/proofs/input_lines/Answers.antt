-- An input that is too long has one line; any other has those of its commands and its board.
use Rattle.sheet.specs.Laws.Whole.{too_long, not_long}
use Rattle.sheet.proofs.input_lines.Goals as goal

pub returns-then-input-gt-INPUT : goal.returns-then-input-gt-INPUT
returns-then-input-gt-INPUT c =
    too_long _ c.if-input-gt-INPUT.true c.refusal_line.ensures

pub returns : goal.returns
returns c =
    not_long _ c.if-input-gt-INPUT.false c.file_lines.ensures
