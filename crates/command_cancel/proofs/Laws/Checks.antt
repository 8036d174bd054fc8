-- ON A STATE THAT IS A LEDGER'S the checks over the bytes agree with the ledger's conditions. Assumes nothing.
use Rattle.std.specs.Prelude.{◌≡◌, List, ℕ}
use Rattle.model.specs.declared.command.Command.TheVariants as kind
use Rattle.model.specs.Ledger.{Ledger, LedgerShape, kind_conditions}
use Rattle.model.specs.Representation.{Represents}
use Rattle.model.proofs.Laws.Heads.{no_call_lem, no_calls}
use Rattle.model.proofs.Laws.Cancelled.{cancelled_held}
use Rattle.command_cancel.specs.Checks.{cancel_checks}
use Rattle.layout.specs.Memory.{State}
use Rattle.model.specs.Refusals.{first_of}
use Rattle.model.proofs.Laws.Refusals as refusals

pub cancel_checks_same : (L : Ledger) → LedgerShape L → (s : State) → Represents L s → (call : ℕ) (ns : List ℕ)
    → first_of (cancel_checks s.value.heads.counts s.slots call) ≡ first_of (kind_conditions L (kind.Cancel call) ns)
cancel_checks_same L shape s is call ns =
    refusals.agree_first
    (refusals.next (no_calls L.board shape.board s.value.heads is.stored.headed)
    (λ on. refusals.next (no_call_lem L.board shape.board s.value.heads is.stored.headed call)
    (λ there. refusals.next (cancelled_held L.board shape.board is.stored call) (λ live. refusals.none))))
