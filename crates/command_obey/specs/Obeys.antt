-- WHAT OBEYING A COMMAND THAT HAS BEEN READ PROMISES.
use Rattle.std.specs.Prelude.{◌≡◌, List, ℕ, Ok, Err}
use Rattle.layout.specs.Memory.{State, MarkedState}
use Rattle.layout.specs.Names.{no_names}
use Rattle.model.specs.declared.command.Command.{Command}
use Rattle.model.specs.declared.command.Command.TheVariants as kind
use Rattle.model.specs.Promise.{Answer, MarkedPromise, BoardMade}
use Rattle.command_board.specs.Made.{MakesBoard}

-- the names after a kind 1 that was answered so
abbrev pub names_after : Answer → List ℕ → List ℕ
names_after (Ok r) names = no_names
names_after (Err e) names = names

pub record MakesAnew (counts : List ℕ) (before : State) (names : List ℕ) (given : Answer) (after : State) (names' : List ℕ) : Type 0 where
  pub board : MakesBoard counts before given after
  pub names_are : names' ≡ names_after given names

-- a command that has been read is obeyed: by its kind's promise, and a kind 1 alike on every memory
pub record Obeys (before : MarkedState) (c : Command) (ns : List ℕ) (given : Answer) (after : MarkedState) : Type 0 where
  pub promise : MarkedPromise before c ns given after
  pub made : c ≡ kind.Board → BoardMade ns given after.state
