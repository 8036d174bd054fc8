-- WHAT A MARK KEEPS through other commands (SCOPE 6.20).
use Rattle.std.specs.Prelude.{◌≡◌, List, ℕ}
use Rattle.layout.specs.Marks.{marked_rows, marked_killers, marked_slots}
use Rattle.layout.specs.Memory.{State, state_of, MarkedState, Whole}
use Rattle.layout.specs.Names.{heads_under}
use Rattle.layout.specs.Value.{empty_draft, with_draft}
use Rattle.model.specs.declared.command.Command.{Command}
use Rattle.model.specs.declared.command.Command.TheVariants as kind
use Rattle.model.specs.declared.command.Read.{Read}
use Rattle.model.specs.declared.command.Read.TheVariants as found
use Rattle.model.specs.Commands.{read_at}
use Rattle.model.specs.Ledger.{Member}
use Rattle.model.specs.Lists.{Runs, done, then, Entered}
use Rattle.model.specs.Refusals.{number_of}

-- under the name lie the heads and the buffers of this state, byte for byte
pub record Under (name : ℕ) (s : State) (m : MarkedState) : Type 0 where
  pub heads : heads_under m.names name ≡ s.value.heads
  pub rows : marked_rows m.marks name ≡ s.rows
  pub killers : marked_killers m.marks name ≡ s.killers
  pub slots : marked_slots m.marks name ≡ s.slots

-- A COMMAND APART FROM A NAME, once it is accepted, keeps no board under it and makes no new board
abbrev pub ApartKind : ℕ → Command → Type 0
ApartKind name kind.Board = ⊥
ApartKind name (kind.Head h) = Unit {0}
ApartKind name (kind.Row w) = Unit {0}
ApartKind name kind.Post = Unit {0}
ApartKind name (kind.Retract n) = Unit {0}
ApartKind name (kind.Gap f) = Unit {0}
ApartKind name (kind.Keep other) = name ≡ other → ⊥
ApartKind name (kind.Back other) = Unit {0}
ApartKind name (kind.Cancel c) = Unit {0}

abbrev pub ApartRead : ℕ → Read → Type 0
ApartRead name (found.Command c) = ApartKind name c
ApartRead name (found.Refused k e) = Unit {0}
ApartRead name found.End = Unit {0}

-- what is refused changes nothing, so it is apart whatever it is: each command of a list that ran
abbrev pub AllApart : {s s' : Whole} {ms : List Member} → ℕ → Runs Whole Member Entered s ms s' → Type 0
AllApart name done = Unit {0}
AllApart name (then {m = m} entered rest) = (number_of entered.given ≡ 0 → ApartRead name (read_at m.bytes 0).read) × AllApart name rest

-- THE SAME BOARD WITHOUT A DRAFT: calls, rules, rows, slots, causes and killers
abbrev pub without_draft : State → State
without_draft s = state_of (with_draft s.value empty_draft) s.rows s.killers s.slots
