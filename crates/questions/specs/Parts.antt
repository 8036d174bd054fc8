-- The state that a question is asked of, and what its functions are handed of it.
use Rattle.std.specs.Prelude.{◌≡◌, List, [], ℕ, ◌≤◌, ◌<◌, length, Option}
use Rattle.layout.specs.Places.{rows_of}
use Rattle.layout.specs.Memory.{State, state_of_parts}
use Rattle.layout.specs.Sizes.{killers_length, rows_length}
use Rattle.model.specs.Tests.{first}
use Rattle.model.specs.Questions.{supports?, found_row}

-- the parts that functions are lent: for a call or a slot of it, for a rule, a row of it, a support, and for the search of one
abbrev pub call_parts : List ℕ → List ℕ → List ℕ → List ℕ → State
call_parts counts rows killers slots = state_of_parts counts [] [] [] rows killers slots

abbrev pub rule_parts : List ℕ → List ℕ → List ℕ → List ℕ → List ℕ → State
rule_parts counts arity rows killers slots = state_of_parts counts arity [] [] rows killers slots

abbrev pub row_parts : List ℕ → List ℕ → List ℕ → List ℕ → List ℕ → List ℕ → State
row_parts counts arity lengths rows killers slots = state_of_parts counts arity [] lengths rows killers slots

abbrev pub support_parts : List ℕ → List ℕ → List ℕ → List ℕ → List ℕ → List ℕ → State
support_parts counts arity scope rows killers slots = state_of_parts counts arity scope [] rows killers slots

abbrev pub search_parts : List ℕ → List ℕ → State
search_parts rows killers = state_of_parts [] [] [] [] rows killers []

-- the same with the numbers of rows
abbrev pub length_parts : List ℕ → List ℕ → List ℕ → State
length_parts lengths rows killers = state_of_parts [] [] [] lengths rows killers []

-- THE SUPPORT IN AN ACTIVE COLUMN: the lowest of the rule's rows that is alive and has the slot there, or none
abbrev pub active_support : State → ℕ → ℕ → ℕ → Option ℕ
active_support s p k t = let m = rows_of s.value.heads.lengths p in found_row m (first m (supports? s p k t))

-- WHERE A SEARCH MAY LOOK: the buffers have their lengths, p is a rule's number, m at most its rows and k one of its columns
pub record Searchable (rows killers : List ℕ) (p m k : ℕ) : Type 0 where
  pub rows_size : length rows ≡ rows_length
  pub killers_size : length killers ≡ killers_length
  pub number : p < 64
  pub few : m ≤ 64
  pub column : k < 4
