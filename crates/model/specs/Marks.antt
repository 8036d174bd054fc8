-- KEPT BOARDS (SCOPE 2.10, 2.11): a board is kept under a name where the name's heads and its part of the marks' bytes store it. And what each kind leaves of names and
-- marks, whatever the memory holds (3.14, 3.15).
use Rattle.std.specs.Prelude.{◌≡◌, List, ℕ, ◌<◌, length}
use Rattle.std.proofs.Math.Option.{Option, none, some}
use Rattle.layout.specs.Marks.{marked_rows, marked_killers, marked_slots, with_mark}
use Rattle.layout.specs.Names.{Mark, no_mark, mark_of, names_length, no_names, mark_under, with_mark_under}
use Rattle.layout.specs.Memory.{State, state_of, MarkedState, marked_of}
use Rattle.layout.specs.Sizes.{marks_length}
use Rattle.layout.specs.Value.{empty_draft}
use Rattle.model.specs.declared.command.Command.{Command}
use Rattle.model.specs.declared.command.Command.TheVariants as kind
use Rattle.model.specs.declared.command.Read.{Read}
use Rattle.model.specs.declared.command.Read.TheVariants as found
use Rattle.model.specs.Board.{Board}
use Rattle.model.specs.Ledger.{Ledger, kept_under}
use Rattle.model.specs.Representation.{Stored, Represents}

-- all that is said of the board on which commands work is said of a kept one: heads, rows, killers, slots
pub record BoardKept (B : Board) (m : Mark) (marks : List ℕ) (name : ℕ) : Type 0 where
  pub kept : m.kept ≡ 1
  pub stored : Stored B m.heads (marked_rows marks name) (marked_killers marks name) (marked_slots marks name)

-- or nothing is kept there, and the name has the fixed value of that
abbrev pub MarkHeld : Option Board → Mark → List ℕ → ℕ → Type 0
MarkHeld none m marks name = m ≡ no_mark
MarkHeld (some B) m marks name = BoardKept B m marks name

-- THE STATE WITH THE MARKS IS THE LEDGER'S: the board and the draft, and under each name what the ledger keeps there. Where it keeps nothing the bytes are any
pub record RepresentsMarked (L : Ledger) (m : MarkedState) : Type 0 where
  pub state : Represents L m.state
  pub names_size : length m.names ≡ names_length
  pub marks_size : length m.marks ≡ marks_length
  pub held : (name : ℕ) → name < 2 → MarkHeld (kept_under L name) (mark_under m.names name) m.marks name

-- WHAT KIND 7 LEAVES: the state as it was, and its board under the name; the other name's half of the bytes is as it was (Laws.Marks)
abbrev pub kept_as : MarkedState → ℕ → MarkedState
kept_as m name =
    marked_of m.state (with_mark_under m.names name (mark_of m.state.value.heads))
    (with_mark m.marks name m.state.rows m.state.killers m.state.slots)

-- AND KIND 8: the heads and bytes that are kept under the name, causes and killers among them, no draft, and the marks as they were
abbrev pub state_back : MarkedState → ℕ → State
state_back m name =
    state_of (record { heads = (mark_under m.names name).heads; draft = empty_draft }) (marked_rows m.marks name) (marked_killers m.marks name)
    (marked_slots m.marks name)

abbrev pub brought_back : MarkedState → ℕ → MarkedState
brought_back m name = marked_of (state_back m name) m.names m.marks

-- these names and bytes are left
pub record MarksLeft (names marks : List ℕ) (after : MarkedState) : Type 0 where
  pub names_are : after.names ≡ names
  pub marks_are : after.marks ≡ marks

-- WHAT AN ACCEPTED COMMAND LEAVES OF THE MARKS, by its kind: only kind 7 writes there, and kind 1 forgets both names
abbrev pub LeavesMarks : Command → MarkedState → MarkedState → Type 0
LeavesMarks kind.Board before after = MarksLeft no_names before.marks after
LeavesMarks (kind.Head h) before after = MarksLeft before.names before.marks after
LeavesMarks (kind.Row w) before after = MarksLeft before.names before.marks after
LeavesMarks kind.Post before after = MarksLeft before.names before.marks after
LeavesMarks (kind.Retract n) before after = MarksLeft before.names before.marks after
LeavesMarks (kind.Gap f) before after = MarksLeft before.names before.marks after
LeavesMarks (kind.Keep name) before after = after ≡ kept_as before name
LeavesMarks (kind.Back name) before after = after ≡ brought_back before name
LeavesMarks (kind.Cancel c) before after = MarksLeft before.names before.marks after

-- of what was read
abbrev pub LeavesMarksOf : Read → MarkedState → MarkedState → Type 0
LeavesMarksOf (found.Command c) before after = LeavesMarks c before after
LeavesMarksOf (found.Refused k e) before after = ⊥
LeavesMarksOf found.End before after = ⊥
