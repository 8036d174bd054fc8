-- THE LONGEST SHEET: a line for each byte of the longest input, the lines of all calls and of the whole board, and the last line.
use Rattle.std.specs.Prelude.{ℕ, ◌+◌, ◌*◌, length}
use Rattle.model.specs.Sheet.{input_most, end_line}
use Rattle.sheet_lines.specs.Lengths.{line_most, board_lines_most}

abbrev pub lines_most : ℕ
lines_most = line_most * input_most + board_lines_most

abbrev pub sheet_most : ℕ
sheet_most = lines_most + length end_line
