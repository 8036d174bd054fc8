-- THE SHEET (SCOPE 7): what `berthsheet` writes, from the input's bytes, through the ledger and the open slots.
use Rattle.std.specs.Prelude.{cond, List, [], ◌∷◌, ◌++◌, ℕ, zero, suc, ◌+◌, ◌/◌, ◌%◌, length, eqb, ltb}
use Rattle.model.specs.declared.command.Command.{Command}
use Rattle.model.specs.declared.command.Read.{Read}
use Rattle.model.specs.declared.command.Read.TheVariants as found
use Rattle.model.specs.declared.command.Decoded.{Decoded}
use Rattle.model.specs.Board.{Board, cancelled_on?}
use Rattle.model.specs.Tests.{up_from, keep_only}
use Rattle.model.specs.Filter.{in?, open_of}
use Rattle.model.specs.Commands.{kind_of, read_at}
use Rattle.model.specs.Ledger.{Ledger, fresh, kind_conditions, obey}
use Rattle.model.specs.Report.{struck_by, reopened_by}
use Rattle.model.specs.Summary.{open_total}
use Rattle.model.specs.Refusals.{number, first_of}
use Rattle.model.specs.Numbers as refused

-- a number in decimal, of at most so many digits; no number here has more than four
abbrev pub digits : ℕ → ℕ → List ℕ
digits zero n = []
digits (suc most) n = cond (ltb n 10) [] (digits most (n / 10)) ++ ((48 + n % 10) ∷ [])

abbrev pub decimal : ℕ → List ℕ
decimal n = digits 4 n

-- numbers, with a space before each
abbrev pub spaced : List ℕ → List ℕ
spaced [] = []
spaced (n ∷ ns) = 32 ∷ decimal n ++ spaced ns

-- a line: a letter, numbers, and byte 10
abbrev pub line : ℕ → List ℕ → List ℕ
line letter ns = letter ∷ spaced ns ++ (10 ∷ [])

-- a line begins with `a` for a command that was accepted and `r` for one refused (SCOPE 7.2), with `c` for a call (7.6) and with `t` for the whole board (7.11)
abbrev pub accepted_line : ℕ → ℕ → ℕ → List ℕ
accepted_line k s r = line 97 (k ∷ s ∷ r ∷ [])

abbrev pub refused_line : ℕ → ℕ → List ℕ
refused_line k n = line 114 (k ∷ n ∷ [])

abbrev pub open_line : List (List ℕ) → ℕ → List ℕ
open_line left c = line 99 (c ∷ keep_only (in? left c) (up_from 0 32))

-- the line of a cancelled call has a dash behind its number (SCOPE 7.13)
abbrev pub cancelled_line : ℕ → List ℕ
cancelled_line c = 99 ∷ spaced (c ∷ []) ++ (32 ∷ 45 ∷ 10 ∷ [])

abbrev pub call_line : Board → ℕ → List ℕ
call_line B c = cond (cancelled_on? B c) (cancelled_line c) (open_line (open_of B) c)

-- the bytes of `end` (SCOPE 7.7)
abbrev pub end_line : List ℕ
end_line = 101 ∷ 110 ∷ 100 ∷ 10 ∷ []

-- the line of the whole board (SCOPE 7.11)
abbrev pub total_line : ℕ → List ℕ
total_line total = line 116 (total ∷ [])

abbrev pub call_lines : Board → List ℕ → List ℕ
call_lines B [] = []
call_lines B (c ∷ cs) = call_line B c ++ call_lines B cs

-- the lines of the board, if there is one: of its calls, and of the whole
abbrev pub board_lines : Board → List ℕ
board_lines B = cond (eqb (length B.counts) 0) [] (call_lines B (up_from 0 (length B.counts)) ++ total_line (open_total B))

-- the line of a command, from its refusal's number and the boards before and after
abbrev pub decision_line : ℕ → Command → Board → Board → List ℕ
decision_line zero c B B' = accepted_line (kind_of c) (struck_by c B B') (reopened_by c B B')
decision_line (suc n) c B B' = refused_line (kind_of c) (suc n)

-- the refusal of what was read, under the file's numbers or by the command's own conditions
abbrev pub file_refusal : Ledger → Read → List ℕ → ℕ
file_refusal L (found.Command c) ns = first_of (kind_conditions L c ns)
file_refusal L (found.Refused k e) ns = number e
file_refusal L found.End ns = 0

abbrev pub read_line : ℕ → Read → Board → Board → List ℕ
read_line n (found.Command c) B B' = decision_line n c B B'
read_line n (found.Refused k e) B B' = refused_line k (number e)
read_line n found.End B B' = []

-- the longest input that is read (SCOPE 7.5)
abbrev pub input_most : ℕ
input_most = 32768

-- WHAT A FILE HOLDS: what is read from a place on, to the file's end or the first 3 or 4 (SCOPE 7.3). At most so many commands
abbrev pub up_to_refusal : Decoded → Read → List Decoded → List Decoded
up_to_refusal d (found.Command c) rest = d ∷ rest
up_to_refusal d (found.Refused k e) rest = d ∷ []
up_to_refusal d found.End rest = []

abbrev pub reads_from : ℕ → List ℕ → ℕ → List Decoded
reads_from zero s at = []
reads_from (suc most) s at = up_to_refusal (read_at s at) (read_at s at).read (reads_from most s (read_at s at).next)

-- a line for each, then the board's lines
abbrev pub lines_from : Ledger → List Decoded → List ℕ
lines_from L [] = board_lines L.board
lines_from L (d ∷ ds) =
    let n = file_refusal L d.read d.counts in
    let L' = obey n L d.read d.counts in
    read_line n d.read L.board L'.board ++ lines_from L' ds

-- THE WHOLE OUTPUT. An input of more than 32,768 bytes is not read at all (SCOPE 7.5)
abbrev pub sheet_of : List ℕ → List ℕ
sheet_of input = cond (ltb input_most (length input)) (refused_line 0 refused.file_length) (lines_from fresh (reads_from (length input) input 0)) ++ end_line
