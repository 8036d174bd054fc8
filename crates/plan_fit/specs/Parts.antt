-- What the functions are handed of the state that a question is asked of.
use Rattle.std.specs.Prelude.{List, [], ℕ}
use Rattle.layout.specs.declared.value.Heads.{Heads}
use Rattle.layout.specs.Value.{empty_draft}
use Rattle.layout.specs.Memory.{State, state_of, state_of_parts}

-- the rules in force, their rows, and which calls are cancelled
abbrev pub rule_parts : Heads → List ℕ → List ℕ → State
rule_parts heads rows slots = state_of (record { heads = heads; draft = empty_draft }) rows [] slots

-- the calls, and which of them are cancelled
abbrev pub call_parts : List ℕ → List ℕ → State
call_parts counts slots = state_of_parts counts [] [] [] [] [] slots
