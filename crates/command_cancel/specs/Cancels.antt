-- WHAT A CANCELLATION LEAVES, on any contents: killers and slots as the filter leaves them, rows and value as they were, and what is reported; and what kind 9 promises.
use Rattle.std.specs.Prelude.{◌≡◌, List, ℕ, ◌%◌, min, get_or, Ok}
use Rattle.model.specs.declared.answer.Report.{Report}
use Rattle.model.specs.declared.command.Command.TheVariants as kind
use Rattle.model.specs.Promise.{Answer, KindPromise}
use Rattle.filter_propagate.specs.Rules.{rules_in}
use Rattle.filter_cancel.specs.Done.{CancelDone}
use Rattle.layout.specs.Memory.{State}

-- a cancellation strikes nothing that was open (SCOPE 3.17)
abbrev pub cancel_report : ℕ → ℕ → Report
cancel_report reopened touched = record { struck = 0; reopened = reopened; touched = touched }

-- THE CALL IS CANCELLED. It is taken modulo 32 and its slots are at most 32, so that any bytes name some
pub record CallCancelled (call : ℕ) (before : State) (given : Answer) (after : State) : Type 0 where
  pub reopened : ℕ
  pub touched : ℕ
  pub done :
      CancelDone
      (call % 32)
      (min (get_or before.value.heads.counts (call % 32) 0) 32)
      (rules_in before.rows before.value.heads)
      before.killers
      after.killers
      before.slots
      after.slots
      reopened
      touched
  pub value_same : after.value ≡ before.value
  pub rows_same : after.rows ≡ before.rows
  pub answer_is : given ≡ Ok (cancel_report reopened touched)

-- THE PROMISE OF KIND 9: the counts that may stand beside a command are any, since it reads none of them
abbrev pub CancelPromise : ℕ → State → Answer → State → Type 0
CancelPromise call before given after = (ns : List ℕ) → KindPromise before (kind.Cancel call) ns given after
