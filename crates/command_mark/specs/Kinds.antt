-- WHAT KINDS 7 AND 8 LEAVE, on any contents, and what they promise.
use Rattle.std.specs.Prelude.{◌≡◌, List, ℕ, ◌+◌, Ok}
use Rattle.layout.specs.declared.value.Heads.{Heads}
use Rattle.layout.specs.Marks.{marked_rows, marked_killers, marked_slots}
use Rattle.layout.specs.Memory.{State, state_of, MarkedState}
use Rattle.layout.specs.Names.{heads_under}
use Rattle.layout.specs.Value.{empty_draft}
use Rattle.model.specs.declared.answer.Report.{Report}
use Rattle.model.specs.declared.answer.Outcome.{Outcome}
use Rattle.model.specs.declared.command.Command.{Command}
use Rattle.model.specs.Marks.{kept_as}
use Rattle.model.specs.Promise.{Answer, accepted_with, MarkedPromise}
use Rattle.model.specs.Report.{struck_between, reopened_between}
use Rattle.command_mark.specs.declared.changes.Changes.{Changes}

-- THE BOARD IS KEPT under a name
pub record KeepsBoard (name : ℕ) (before : MarkedState) (given : Answer) (after : MarkedState) : Type 0 where
  pub answer_is : given ≡ Ok (record { struck = 0; reopened = 0; touched = 0 })
  pub left : after ≡ kept_as before name

-- a board that is brought back has no draft, and touches what it strikes and what it reopens
abbrev pub back_outcome : Changes → Heads → Outcome
back_outcome changes heads =
    accepted_with changes.struck changes.reopened (changes.struck + changes.reopened) (record { heads = heads; draft = empty_draft })

-- what is reported of the slots before and after: S and R between them, and T is their sum (SCOPE 3.15)
abbrev pub back_report : List ℕ → List ℕ → Report
back_report slots slots' =
    let struck = struck_between slots slots' in
    let reopened = reopened_between slots slots' in
    record { struck = struck; reopened = reopened; touched = struck + reopened }

-- THE BOARD UNDER A NAME IS BROUGHT BACK, where these slots were
pub record BringsBack (name : ℕ) (names marks slots : List ℕ) (given : Answer) (after : State) : Type 0 where
  pub answer_is : given ≡ Ok (back_report slots after.slots)
  pub left : after ≡ state_of (record { heads = heads_under names name; draft = empty_draft }) (marked_rows marks name) (marked_killers marks name) (marked_slots marks name)

-- THE PROMISE OF BOTH: the counts that may stand beside a command are any, since neither reads them
abbrev pub MarkPromise : Command → MarkedState → Answer → MarkedState → Type 0
MarkPromise c before given after = (ns : List ℕ) → MarkedPromise before c ns given after
