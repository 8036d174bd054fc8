-- HOW LONG THE LINES ARE. Assumes nothing.
use Rattle.std.specs.Prelude.{cond, ℕ, ◌+◌, ◌*◌, leb}

-- 1 where the number reaches the weight
abbrev pub reaches : ℕ → ℕ → ℕ
reaches n w = cond (leb w n) 1 0

-- numbers of a line are below this: they have at most four digits
abbrev pub decimal_end : ℕ
decimal_end = 10000

-- the longest line of a command, the longest of a call, the longest lines of all calls, the longest of the whole board, and the longest lines of a board
abbrev pub line_most : ℕ
line_most = 12

abbrev pub call_line_most : ℕ
call_line_most = 91

abbrev pub call_lines_most : ℕ
call_lines_most = 32 * call_line_most

abbrev pub total_line_most : ℕ
total_line_most = 7

abbrev pub board_lines_most : ℕ
board_lines_most = call_lines_most + total_line_most
