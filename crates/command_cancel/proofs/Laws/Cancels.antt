-- WHAT A CANCELLATION LEAVES is the stepped ledger's, and its report is right. Assumes nothing.
use Rattle.std.specs.Prelude.{◌≡◌, refl, List, ℕ, ◌%◌, ◌<◌, min, length, get_or, Err}
use Rattle.std.proofs.Common.{sym, ◌∙◌, arith, leb-false}
use Rattle.model.specs.declared.refusal.Refusal.{Refusal}
use Rattle.model.specs.declared.command.Command.TheVariants as kind
use Rattle.model.specs.Board.{Board}
use Rattle.model.specs.Ledger.{Ledger, LedgerShape, kind_conditions}
use Rattle.model.specs.Report.{Reports}
use Rattle.model.specs.Representation.{Represents}
use Rattle.model.specs.Promise.{Answer, KindPromise}
use Rattle.model.proofs.Laws.Refusals.{none_holds}
use Rattle.model.proofs.Laws.Promised.{promise_refused, promise_accepted}
use Rattle.model.specs.Numbers as refused
use Rattle.model.specs.Refusals.{number, first_of}
use Rattle.filter_cancel.specs.Stored.{CancelStored}
use Rattle.filter_cancel.specs.Laws.Stored.{cancel_stored}
use Rattle.layout.specs.Memory.{State}
use Rattle.command_cancel.specs.Checks.{cancel_checks}
use Rattle.command_cancel.specs.Cancels.{cancel_report, CallCancelled}
use Rattle.command_cancel.proofs.Laws.Checks.{cancel_checks_same}

module _ (call : ℕ) (before : State) (ns : List ℕ) where
  -- a refusal changes nothing
  pub cancel_refused : (f : Refusal) → number f ≡ first_of (cancel_checks before.value.heads.counts before.slots call) → KindPromise before (kind.Cancel call) ns (Err f) before
  cancel_refused f e = promise_refused before (kind.Cancel call) ns f (λ L shape is. e ∙ cancel_checks_same L shape before is call ns)

  module _ (given : Answer) (after : State) (done : CallCancelled call before given after) where
    -- a call of the board is below 32, and its count is the head's
    cancelled : (L : Ledger) → LedgerShape L → Represents L before → call < length L.board.counts
        → CancelStored L.board call before.value.heads before.rows before.killers after.killers before.slots after.slots done.reopened done.touched
    cancelled L shape is there =
        let lc : call < 32 = omega (arith, shape.board.calls) in
        let number : call % 32 ≡ call = omega arith in
        let held = is.stored.headed.counts call lc in
        let most = (shape.board.counts call there).1 in
        cancel_stored L.board shape.board call there before.value.heads before.rows before.killers before.slots is.stored
        (min (get_or before.value.heads.counts call 0) 32) (omega arith) (rw number at done.done)

    cancel_reports : {B : Board}
        → CancelStored B call before.value.heads before.rows before.killers after.killers before.slots after.slots done.reopened done.touched
        → Reports B (kind.Cancel call) before after (cancel_report done.reopened done.touched)
    cancel_reports h =
        record {
          struck = sym h.none_struck;
          reopened = sym h.reopened_is;
          own = record { none_struck = refl; touched = h.touched_is };
        }

    pub cancel_accepted : 0 ≡ first_of (cancel_checks before.value.heads.counts before.slots call) → KindPromise before (kind.Cancel call) ns given after
    cancel_accepted e =
        rw done.answer_is
        (promise_accepted before (kind.Cancel call) ns after (cancel_report done.reopened done.touched)
        (λ L shape is.
        let passes = e ∙ cancel_checks_same L shape before is call ns in
        let there = leb-false (length L.board.counts) call (none_holds (kind_conditions L (kind.Cancel call) ns) tt (sym passes) refused.no_call) in
        let h = cancelled L shape is there in (
          passes,
          cancel_reports h,
          record { stored = rw (done.value_same, done.rows_same) h.stored; drafted = rw done.value_same is.drafted },
        )))
