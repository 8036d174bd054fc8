-- A KIND THAT ONLY WRITES THE DRAFT KEEPS ITS PROMISE where what it gives back of the draft is right on every ledger. Assumes nothing.
use Rattle.std.specs.Prelude.{◌≡◌, refl, List, ℕ, Result, Ok, Err}
use Rattle.std.proofs.Common.{sym, subst, ◌∙◌, arith}
use Rattle.layout.specs.declared.value.Value.{Value}
use Rattle.layout.specs.declared.value.Draft.{Draft}
use Rattle.model.specs.declared.answer.Report.{Report}
use Rattle.model.specs.declared.command.Command.{Command}
use Rattle.model.specs.Board.{Board}
use Rattle.model.specs.Ledger.{Ledger, LedgerShape, kind_conditions, effect}
use Rattle.model.specs.Report.{Reports}
use Rattle.model.specs.Representation.{Stored, Drafted, Represents}
use Rattle.model.specs.Refusals.{first_of, number_of, AnsweredBy}
use Rattle.model.proofs.Laws.Promised.{promise_refused, promise_accepted}
use Rattle.layout.specs.Memory.{State, state_of}
use Rattle.layout.specs.Value.{with_draft}
use Rattle.model.specs.declared.refusal.Refusal.{Refusal}
use Rattle.command_draft.specs.Drafts.{DraftPromise, draft_outcome}

-- where nothing is refused the new draft is given back
pub new_left : {n : ℕ} {new : Draft} (r : Result Draft Refusal) → AnsweredBy n new r → (d : Draft) → r ≡ Ok d → (n ≡ 0) × (d ≡ new)
new_left (Ok b) h d e = let same : b ≡ d = cc in (h.0, sym same ∙ h.1)
new_left (Err f) h d e = let z : ◌≡◌ {A = ℕ} 0 1 = cc in absurd (omega arith)

-- such a kind reports 0, 0, 0
abbrev pub no_change : Report
no_change = record { struck = 0; reopened = 0; touched = 0 }

-- RIGHT ON EVERY LEDGER whose state has this value and these slot bytes: the refusal is the first condition that holds; where none does the draft is the stepped
-- ledger's, whose board is as it was
pub record RedraftRight (value : Value) (slots : List ℕ) (c : Command) (r : Result Draft Refusal) : Type 0 where
  pub number : (L : Ledger) → LedgerShape L → (rows killers : List ℕ) → Represents L (state_of value rows killers slots) → (ns : List ℕ)
      → number_of r ≡ first_of (kind_conditions L c ns)
  pub drafted : (d : Draft) → r ≡ Ok d → (L : Ledger) → LedgerShape L → (rows killers : List ℕ) → Represents L (state_of value rows killers slots) → (ns : List ℕ)
      → Drafted (effect L c ns).draft d
  pub board : (L : Ledger) (ns : List ℕ) → L.board ≡ (effect L c ns).board
  pub report : (B : Board) (before after : State) → Reports B c before after no_change

pub redraft_promise : {value : Value} {slots : List ℕ} {c : Command} (r : Result Draft Refusal) → RedraftRight value slots c r → DraftPromise value slots c (draft_outcome value r)
redraft_promise {value} {slots} {c} (Err f) right rows killers ns =
    promise_refused (state_of value rows killers slots) c ns f (λ L shape is. right.number L shape rows killers is ns)
redraft_promise {value} {slots} {c} (Ok d) right rows killers ns =
    let before = state_of value rows killers slots in
    let after = state_of (with_draft value d) rows killers slots in
    promise_accepted before c ns after no_change
    (λ L shape is. (
      right.number L shape rows killers is ns,
      right.report L.board before after,
      record {
        stored = subst (λ (B : Board). Stored B value.heads rows killers slots) (right.board L ns) is.stored;
        drafted = right.drafted d refl L shape rows killers is ns;
      },
    ))
