-- A COMMAND KEEPS ITS PROMISE where its check gives the number of the first condition that holds, and what it leaves is the stepped ledger's. Assumes nothing.
use Rattle.std.specs.Prelude.{◌≡◌, refl, List, [], ◌∷◌, ℕ, zero, suc, Ok, Err}
use Rattle.std.proofs.Common.{sym, subst, ◌∙◌, arith}
use Rattle.model.specs.declared.answer.Report.{Report}
use Rattle.model.specs.declared.refusal.Refusal.{Refusal}
use Rattle.model.specs.declared.command.Command.{Command}
use Rattle.model.specs.declared.command.Read.TheVariants as found
use Rattle.model.specs.Ledger.{Ledger, LedgerShape, kind_conditions, effect, obey}
use Rattle.model.specs.Report.{Reports}
use Rattle.model.specs.Representation.{Represents}
use Rattle.model.specs.Marks.{RepresentsMarked, LeavesMarks}
use Rattle.model.specs.Promise.{Decided, KindPromise, MarkedPromise}
use Rattle.model.proofs.Laws.Answers.{never_zero}
use Rattle.model.proofs.Laws.Refusals.{number_not_zero, no_values}
use Rattle.layout.specs.Memory.{State, MarkedState}
use Rattle.model.specs.Refusals.{number, first_of}

-- a decision under the number k: `Left` says for each number what is said of the memory after
module _ {Reported : Report → Type 0} (Left : ℕ → Type 0) where
  decided_refused : (f : Refusal) (k : ℕ) → number f ≡ k → ((m : ℕ) → Left (suc m)) → Decided k Reported (Left k) (Err f)
  decided_refused f k e left =
      record {
        report = none;
        number = e;
        values = sym (no_values k (0 ∷ 0 ∷ 0 ∷ []) refused);
        reported = λ z. absurd (refused z);
        represents = some k refused;
      }
    where
      none : Report
      none = record { struck = 0; reopened = 0; touched = 0 }

      refused : k ≡ 0 → ⊥
      refused z = number_not_zero f (e ∙ z)

      some : (m : ℕ) → (m ≡ 0 → ⊥) → Left m
      some zero ne = absurd (ne refl)
      some (suc m) ne = left m

  decided_accepted : (report : Report) (k : ℕ) → 0 ≡ k → Reported report → Left 0 → Decided k Reported (Left k) (Ok report)
  decided_accepted report k e reported left =
      subst (λ (k : ℕ). Decided k Reported (Left k) (Ok report)) e
      (record { report = report; number = refl; values = refl; reported = λ z. reported; represents = left })

-- an acceptance is no refusal
not_refused : {A : Type 0} (report : Report) (f : Refusal) → Ok report ≡ Err f → A
not_refused report f e = let z : ◌≡◌ {A = ℕ} 0 1 = cc in absurd (omega arith)

-- OF THE STATE ALONE
module _ (before : State) (c : Command) (ns : List ℕ) where
  -- refused: it has that number on every ledger that the state represents, and nothing is changed
  pub promise_refused : (f : Refusal) → ((L : Ledger) → LedgerShape L → Represents L before → number f ≡ first_of (kind_conditions L c ns))
      → KindPromise before c ns (Err f) before
  promise_refused f check =
      record {
        refused = λ m e. refl;
        never_zero = never_zero (Err f);
        obeyed = λ L shape is.
            decided_refused (λ k. Represents (obey k L (found.Command c) ns) before) f (first_of (kind_conditions L c ns)) (check L shape is) (λ m. is);
      }

  -- accepted: on every such ledger none holds, the report is right, and the state after is the stepped ledger's
  pub promise_accepted : (after : State) (report : Report)
      → ((L : Ledger) → LedgerShape L → Represents L before
      → (0 ≡ first_of (kind_conditions L c ns)) × Reports L.board c before after report × Represents (effect L c ns) after)
      → KindPromise before c ns (Ok report) after
  promise_accepted after report check =
      record {
        refused = λ m e. not_refused report m e;
        never_zero = never_zero (Ok report);
        obeyed = λ L shape is.
            let p = check L shape is in
            decided_accepted (λ k. Represents (obey k L (found.Command c) ns) after) report (first_of (kind_conditions L c ns)) p.0 p.1 p.2;
      }

-- AND WITH THE MARKS, of which an accepted command leaves what its kind has to
module _ (before : MarkedState) (c : Command) (ns : List ℕ) where
  pub marked_refused : (f : Refusal) → ((L : Ledger) → LedgerShape L → RepresentsMarked L before → number f ≡ first_of (kind_conditions L c ns))
      → MarkedPromise before c ns (Err f) before
  marked_refused f check =
      record {
        refused = λ m e. refl;
        never_zero = never_zero (Err f);
        marks = λ z. absurd (number_not_zero f z);
        obeyed = λ L shape is.
            decided_refused (λ k. RepresentsMarked (obey k L (found.Command c) ns) before) f (first_of (kind_conditions L c ns)) (check L shape is) (λ m. is);
      }

  pub marked_accepted : (after : MarkedState) (report : Report) → LeavesMarks c before after
      → ((L : Ledger) → LedgerShape L → RepresentsMarked L before
      → (0 ≡ first_of (kind_conditions L c ns)) × Reports L.board c before.state after.state report × RepresentsMarked (effect L c ns) after)
      → MarkedPromise before c ns (Ok report) after
  marked_accepted after report left check =
      record {
        refused = λ m e. not_refused report m e;
        never_zero = never_zero (Ok report);
        marks = λ e. left;
        obeyed = λ L shape is.
            let p = check L shape is in
            decided_accepted (λ k. RepresentsMarked (obey k L (found.Command c) ns) after) report (first_of (kind_conditions L c ns)) p.0 p.1 p.2;
      }
