-- A STATE OF THE MEMORY: the value and the three buffers of the board; with the marks and a summary table beside them it is the whole that commands write. The fresh ones.
use Rattle.std.specs.Prelude.{◌≡◌, List, ℕ, ◌<◌, length, replicate, get_or}
use Rattle.layout.specs.declared.value.Heads.{Heads}
use Rattle.layout.specs.declared.value.Value.{Value}
use Rattle.layout.specs.Value.{empty_draft, fresh_value}
use Rattle.layout.specs.Names.{no_names}
use Rattle.layout.specs.declared.summary.Summary.{Summary}
use Rattle.layout.specs.Summary.{no_records}
use Rattle.layout.specs.Sizes.{Lent, CommandLent, killers_length, rows_length, slots_length}

-- A STATE: the value and the three buffers
pub record State : Type 0 where
  pub value : Value
  pub rows : List ℕ
  pub killers : List ℕ
  pub slots : List ℕ

abbrev pub state_of : Value → List ℕ → List ℕ → List ℕ → State
state_of value rows killers slots = record { value = value; rows = rows; killers = killers; slots = slots }

-- the same with the buffers that a function is lent
abbrev pub memory : Value → List ℕ → List ℕ → List ℕ → State
memory value rows killers slots = state_of value rows killers slots

-- a state of these heads, for a function that is handed no draft
abbrev pub state_of_heads : Heads → List ℕ → List ℕ → List ℕ → State
state_of_heads heads rows killers slots = state_of (record { heads = heads; draft = empty_draft }) rows killers slots

-- a state of these parts, for a function that is handed only some of them: [] stands for a part that it does not look at, and no question looks at the draft
abbrev pub state_of_parts : List ℕ → List ℕ → List ℕ → List ℕ → List ℕ → List ℕ → List ℕ → State
state_of_parts counts arity scope lengths rows killers slots =
    state_of (record { heads = record { counts = counts; arity = arity; scope = scope; lengths = lengths }; draft = empty_draft }) rows killers slots

-- the lengths of its buffers
abbrev pub lent_of : State → Lent
lent_of s = record { rows = length s.rows; killers = length s.killers; slots = length s.slots }

-- before the first command (SCOPE 2.6)
abbrev pub fresh_state : State
fresh_state = record { value = fresh_value; rows = replicate rows_length 255; killers = replicate killers_length 255; slots = replicate slots_length 254 }

-- A STATE WITH THE MARKS: what is held of the names, and the marks' bytes
pub record MarkedState : Type 0 where
  pub state : State
  pub names : List ℕ
  pub marks : List ℕ

abbrev pub marked_of : State → List ℕ → List ℕ → MarkedState
marked_of s names marks = record { state = s; names = names; marks = marks }

-- the same with the names and the buffers that a function is lent
abbrev pub marked_memory : Value → List ℕ → List ℕ → List ℕ → List ℕ → List ℕ → MarkedState
marked_memory value names rows killers slots marks = marked_of (memory value rows killers slots) names marks

-- THE WHOLE that a command is lent and writes: a state with the marks, and the summary table
pub record Whole : Type 0 where
  pub marked : MarkedState
  pub table : List Summary

abbrev pub whole_of : MarkedState → List Summary → Whole
whole_of m table = record { marked = m; table = table }

-- the lengths of all of it
abbrev pub lent_with : Whole → CommandLent
lent_with w = record { buffers = lent_of w.marked.state; marks = length w.marked.marks; table = length w.table }

-- before the first command the table holds zeros (SCOPE 2.9), and nothing is kept; the marks' bytes are any (2.10)
abbrev pub fresh_marked_state : List ℕ → MarkedState
fresh_marked_state marks = marked_of fresh_state no_names marks

abbrev pub fresh_whole : List ℕ → Whole
fresh_whole marks = whole_of (fresh_marked_state marks) no_records

-- n bytes, each of them v
pub record Filled (n v : ℕ) (l : List ℕ) : Type 0 where
  pub size : length l ≡ n
  pub all : (j : ℕ) → j < n → get_or l j 0 ≡ v
