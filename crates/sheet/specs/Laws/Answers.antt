-- THE LINE OF AN ANSWER IS THE DEFINITION'S, and it is short: on a state that is a ledger's the report's S and R are those of the boards before and after.
-- Assumes nothing.
use Rattle.std.specs.Prelude.{◌≡◌, refl, Bool, true, false, cond, List, ℕ, zero, suc, ◌+◌, ◌≤◌, Ok}
use Rattle.std.proofs.Common.{sym, ap, subst, ◌∙◌, arith}
use Rattle.model.specs.declared.answer.Report.{Report}
use Rattle.model.specs.declared.command.Command.{Command}
use Rattle.model.specs.declared.command.Read.TheVariants as found
use Rattle.model.specs.Board.{Board}
use Rattle.model.specs.Commands.{kind_of}
use Rattle.model.specs.Ledger.{Ledger, kind_conditions, effect, obey}
use Rattle.model.specs.Report.{struck_between, reopened_between, changes_slots?, struck_by, reopened_by, Reports}
use Rattle.model.specs.Representation.{Represents}
use Rattle.model.specs.Marks.{RepresentsMarked}
use Rattle.model.specs.Promise.{Answer, values_of, values_at, report_values, ObeyedMarked}
use Rattle.model.specs.Sheet.{accepted_line, refused_line, decision_line}
use Rattle.model.proofs.Laws.Answers.{refused_by, accepted_by}
use Rattle.model.proofs.Laws.Counts.{changes_few}
use Rattle.model.proofs.Laws.Reports.{struck_between_lem, reopened_between_lem}
use Rattle.sheet.specs.Line.{answer_line, ShortAnswer}
use Rattle.layout.specs.Memory.{State, MarkedState}
use Rattle.layout.specs.Sizes.{slots_length}
use Rattle.model.specs.Refusals.{first_of, number_of}

-- S AND R OF A REPORT: together at most 1,024
few_or_none : (b : Bool) (before after : List ℕ) → cond b (struck_between before after) 0 + cond b (reopened_between before after) 0 ≤ slots_length
few_or_none true before after = changes_few before after
few_or_none false before after = omega arith

reported_short : (B : Board) (before after : State) (q : Report) (c : Command) → Reports B c before after q → ShortAnswer (Ok q)
reported_short B before after q c r =
    record { together = rw (r.struck, r.reopened) (few_or_none (changes_slots? c) before.slots after.slots) }

-- and those of the boards before and after
module _ (L : Ledger) (s s' : State) (ns : List ℕ) (rep : Represents L s) (q : Report) where
  reported_same : (c : Command) → Represents (effect L c ns) s' → Reports L.board c s s' q
      → (q.struck ≡ struck_by c L.board (effect L c ns).board) × (q.reopened ≡ reopened_by c L.board (effect L c ns).board)
  reported_same c rep' r = (
    r.struck ∙ ap (λ (n : ℕ). cond (changes_slots? c) n 0) (struck_between_lem L (effect L c ns) s s' rep rep'),
    r.reopened ∙ ap (λ (n : ℕ). cond (changes_slots? c) n 0) (reopened_between_lem L (effect L c ns) s s' rep rep'),
  )

-- AN ANSWER, by its number: of an accepted command with the report's values, or refused
module _ (L : Ledger) (m m' : MarkedState) (c : Command) (ns : List ℕ) (rep : RepresentsMarked L m) (given : Answer)
    (o : ObeyedMarked L m c ns given m') where
  abbrev refusal : ℕ
  refusal = first_of (kind_conditions L c ns)

  abbrev next : ℕ → Ledger
  next n = obey n L (found.Command c) ns

  pub answer_line_lem : answer_line c given ≡ decision_line refusal c L.board (next refusal).board
  answer_line_lem = go refusal o.number o.values o.reported o.represents
    where
      go : (n : ℕ) → number_of given ≡ n → values_of given ≡ values_at n (report_values o.report)
          → (n ≡ 0 → Reports L.board c m.state m'.state o.report) → RepresentsMarked (next n) m'
          → answer_line c given ≡ decision_line n c L.board (next n).board
      go zero number values reported rep' =
          let same = reported_same L m.state m'.state ns rep.state o.report c rep'.state (reported refl) in
          ap (answer_line c) (accepted_by given o.report values)
          ∙ ap (λ (n : ℕ). accepted_line (kind_of c) n o.report.reopened) same.0
          ∙ ap (λ (n : ℕ). accepted_line (kind_of c) (struck_by c L.board (effect L c ns).board) n) same.1
      go (suc n) number values reported rep' =
          let r = refused_by given n number in
          ap (answer_line c) r.1 ∙ ap (refused_line (kind_of c)) r.2

  pub answer_short : ShortAnswer given
  answer_short = go refusal o.number o.values o.reported
    where
      go : (n : ℕ) → number_of given ≡ n → values_of given ≡ values_at n (report_values o.report)
          → (n ≡ 0 → Reports L.board c m.state m'.state o.report) → ShortAnswer given
      go zero number values reported =
          subst (λ (a : Answer). ShortAnswer a) (sym (accepted_by given o.report values)) (reported_short L.board m.state m'.state o.report c (reported refl))
      go (suc n) number values reported =
          subst (λ (a : Answer). ShortAnswer a) (sym (refused_by given n number).1) (record { together = omega arith })
