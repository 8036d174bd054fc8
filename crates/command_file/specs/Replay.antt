-- A FILE OF COMMANDS IS REPLAYED (SCOPE 6.17): its commands, how it ends, and what is promised of them.
use Rattle.std.specs.Prelude.{◌≡◌, Bool, true, List, [], ◌∷◌, ◌++◌, map, ℕ, zero, suc, ◌+◌, ◌-◌, ◌≤◌, ◌<◌, length, take, drop, ltb, Result, Err, None}
use Rattle.model.specs.declared.command.Read.{Read}
use Rattle.model.specs.declared.command.Read.TheVariants as found
use Rattle.model.specs.Commands.{read_at}
use Rattle.model.specs.Sheet.{input_most}
use Rattle.model.specs.Refusals.{number, first_of, number_of}
use Rattle.model.specs.Numbers as refused
use Rattle.layout.specs.declared.value.Value.{Value}
use Rattle.layout.specs.declared.summary.Summary.{Summary}
use Rattle.layout.specs.Memory.{MarkedState, Whole, whole_of, lent_with, fresh_marked_state, fresh_whole, Filled}
use Rattle.layout.specs.Sizes.{CommandLent, killers_length, rows_length, slots_length}
use Rattle.command_file.specs.declared.Position.{Position}
use Rattle.command_file.specs.declared.ReplayDone.{ReplayDone}
use Rattle.model.specs.declared.refusal.Refusal.{Refusal}
use Rattle.model.specs.Ledger.{lent_conditions, lengths, member}
use Rattle.model.specs.Lists.{After}
use Rattle.model.specs.Promise.{Answer, MemoryPromise}

-- the bytes from a place up to another
abbrev pub part_of : List ℕ → ℕ → ℕ → List ℕ
part_of s at following = take (following - at) (drop at s)

-- THE COMMANDS OF A FILE, each as its bytes: from a place on, at most so many, to the file's end or the first 3 or 4
abbrev pub commands_by : Read → List ℕ → List (List ℕ) → List (List ℕ)
commands_by (found.Command c) bytes rest = bytes ∷ rest
commands_by (found.Refused k e) bytes rest = []
commands_by found.End bytes rest = []

abbrev pub commands_from : ℕ → List ℕ → ℕ → List (List ℕ)
commands_from zero s at = []
commands_from (suc most) s at = commands_by (read_at s at).read (part_of s at (read_at s at).next) (commands_from most s (read_at s at).next)

unfoldable pub file_commands : List ℕ → List (List ℕ)
file_commands s = commands_from (length s) s 0

-- HOW A FILE ENDS: under 3 or 4 where one of them is met, else under 0
abbrev pub end_by : Read → ℕ → ℕ
end_by (found.Command c) rest = rest
end_by (found.Refused k e) rest = number e
end_by found.End rest = 0

abbrev pub end_from : ℕ → List ℕ → ℕ → ℕ
end_from zero s at = 0
end_from (suc most) s at = end_by (read_at s at).read (end_from most s (read_at s at).next)

unfoldable pub file_end : List ℕ → ℕ
file_end s = end_from (length s) s 0

-- what is checked before the file is read: the lengths of what is lent, as with a command, and the file's
abbrev pub replay_conditions : CommandLent → List ℕ → List (Bool × ℕ)
replay_conditions lent file = lent_conditions lent ++ ((ltb input_most (length file), refused.file_length) ∷ [])

pub record ReplayPromise (before : Whole) (file : List ℕ) (number ran : ℕ) (after : Whole) : Type 0 where
  -- 1, 22 or 2 on its condition, else how the file ends
  pub number_is : number ≡ first_of (replay_conditions (lent_with before) file ++ ((true, file_end file) ∷ []))
  -- refused 1, 22 or 2, nothing is changed and nothing was run
  pub unchanged : (n : ℕ) → first_of (replay_conditions (lent_with before) file) ≡ suc n → after ≡ before
  pub none_ran : (n : ℕ) → first_of (replay_conditions (lent_with before) file) ≡ suc n → ran ≡ 0
  -- else what is left stands after the file's commands, entered one after another on a fresh board, whatever the memory held; the marks' bytes were those before
  pub stands : first_of (replay_conditions (lent_with before) file) ≡ 0 → After before.marked.marks (map member (file_commands file)) after
  pub all_ran : first_of (replay_conditions (lent_with before) file) ≡ 0 → ran ≡ length (file_commands file)

-- A FRESH BOARD IN LENT MEMORY (SCOPE 2.8), whatever it held: refused 1 or 22 with nothing changed, or made fresh beside the marks' bytes as they were. A file without
-- commands does it
pub record FreshPromise (before : Whole) (number : ℕ) (after : Whole) : Type 0 where
  pub number_is : number ≡ first_of (lent_conditions (lent_with before))
  pub unchanged : (n : ℕ) → number ≡ suc n → after ≡ before
  pub made : number ≡ 0 → after ≡ fresh_whole before.marked.marks

-- the three buffers of a fresh board, byte by byte
pub record FreshBuffers (rows killers slots : List ℕ) : Type 0 where
  pub rows_filled : Filled rows_length 255 rows
  pub killers_filled : Filled killers_length 255 killers
  pub slots_filled : Filled slots_length 254 slots

-- the memory is a fresh board's, beside these marks' bytes
pub record IsFresh (marks : List ℕ) (m : MarkedState) : Type 0 where
  pub is : m ≡ fresh_marked_state marks

-- ONE ROUND from p to q. A command is obeyed, and the next place is the one behind it
pub record CommandTaken (following : ℕ) (file : List ℕ) (p : Position) (before : MarkedState) (q : Position) (after : MarkedState) : Type 0 where
  pub place : q.at ≡ following
  pub count : q.ran ≡ p.ran + 1
  pub end : number_of q.ended ≡ 0
  pub given : Answer
  pub promise : MemoryPromise lengths before (part_of file p.at following) given after

-- or the file ends, under a number
pub record FileEnded (n : ℕ) (file : List ℕ) (p : Position) (before : MarkedState) (q : Position) (after : MarkedState) : Type 0 where
  pub place : q.at ≡ length file
  pub count : q.ran ≡ p.ran
  pub end : number_of q.ended ≡ n
  pub same : after ≡ before

abbrev pub ended_at : Position → ℕ → Result (Unit {0}) Refusal → Position
ended_at p end ended = record { value = p.value; at = end; ran = p.ran; ended = ended }

abbrev pub TakenBy : Read → ℕ → List ℕ → Position → MarkedState → Position → MarkedState → Type 0
TakenBy (found.Command c) following file p before q after = CommandTaken following file p before q after
TakenBy (found.Refused k e) following file p before q after = FileEnded (number e) file p before q after
TakenBy found.End following file p before q after = FileEnded 0 file p before q after

pub record Taken (file : List ℕ) (p : Position) (before : MarkedState) (q : Position) (after : MarkedState) : Type 0 where
  pub by : TakenBy (read_at file p.at).read (read_at file p.at).next file p before q after

-- A ROUND MAY BE TAKEN: there is something to read, and no more commands than bytes were run
pub record InFile (file : List ℕ) (p : Position) : Type 0 where
  pub further : p.at < length file
  pub few : p.ran ≤ p.at

-- BETWEEN TWO ROUNDS: the commands that were entered and those that are left, at most so many, are all of the file's. The memory stands after those that were entered,
-- with the table that they would have left, where the marks' bytes were these at first
pub record TakenTo (first file : List ℕ) (p : Position) (m : MarkedState) : Type 0 where
  pub taken : List (List ℕ)
  pub table : List Summary
  pub stands : After first (map member taken) (whole_of m table)
  pub count : p.ran ≡ length taken
  pub few : p.ran ≤ p.at
  pub inside : p.at ≤ length file
  pub most : ℕ
  pub enough : length file ≤ p.at + most
  pub all : taken ++ commands_from most file p.at ≡ file_commands file
  pub going : p.at < length file → end_from most file p.at ≡ file_end file
  pub over : length file ≤ p.at → number_of p.ended ≡ file_end file

-- AFTER THE LAST: what was run is the file's commands, and the number is how it ends
pub record FileTaken (first file : List ℕ) (number ran : ℕ) (m : MarkedState) : Type 0 where
  pub table : List Summary
  pub stands : After first (map member (file_commands file)) (whole_of m table)
  pub count : ran ≡ length (file_commands file)
  pub end : number ≡ file_end file

-- and with the records that were counted then
pub record FileCounted (first file : List ℕ) (number ran : ℕ) (w : Whole) : Type 0 where
  pub stands : After first (map member (file_commands file)) w
  pub count : ran ≡ length (file_commands file)
  pub end : number ≡ file_end file

-- a file that is refused: nothing was run, and nothing is to be stored
abbrev pub none_replayed : Refusal → Value → ReplayDone
none_replayed e value = record { replayed = record { value = value; ran = 0; ended = Err e }; table = None }
