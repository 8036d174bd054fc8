-- WHAT A POST AND A RETRACTION LEAVE is the stepped ledger's, and their reports are right. Assumes nothing.
use Rattle.std.specs.Prelude.{◌≡◌, refl, Bool, false, not, List, ℕ, ◌%◌, ◌<◌, length, get_or, Err}
use Rattle.std.proofs.Common.{sym, ◌∙◌, true≢false, arith, ltb-false}
use Rattle.std.proofs.Math.Option.{Option, none, some}
use Rattle.model.specs.declared.refusal.Refusal.{Refusal}
use Rattle.model.specs.declared.command.Command.TheVariants as kind
use Rattle.model.specs.Board.{Rule, Board, GoodRule}
use Rattle.model.specs.Tests.{is_none}
use Rattle.model.specs.Ledger.{NumberedRule, Ledger, LedgerShape, draft_or, not_in_force?, with_rule, kind_conditions, effect}
use Rattle.model.specs.Report.{Reports}
use Rattle.model.specs.Representation.{RuleHeld, Drafted, Represents}
use Rattle.model.specs.Promise.{Answer, KindPromise}
use Rattle.model.proofs.Laws.Fresh.{empty_held}
use Rattle.model.proofs.Laws.Refusals.{none_holds}
use Rattle.model.specs.Numbers as refused
use Rattle.filter_post.specs.Rules.{with_rule_heads}
use Rattle.filter_retract.specs.Stored.{RetractStored}
use Rattle.command_rules.specs.Checks.{post_checks, retract_checks}
use Rattle.command_rules.specs.Changes.{post_report, retract_report, state_rules, Posted, Retracted}
use Rattle.model.proofs.Laws.Promised.{promise_refused, promise_accepted}
use Rattle.command_rules.proofs.Laws.Checks.{post_checks_same, retract_checks_same}
use Rattle.layout.specs.declared.value.Draft.{Draft}
use Rattle.layout.specs.Value.{empty_draft, with_draft}
use Rattle.layout.specs.Memory.{State, state_of}
use Rattle.filter_post.specs.Laws.Stored.{post_stored, post_struck, post_reopened}
use Rattle.filter_retract.specs.Laws.Stored.{retract_stored}
use Rattle.layout.specs.Sizes.{slots_length}
use Rattle.model.specs.Refusals.{number, first_of}

-- the empty draft is no draft
empty_drafted : Drafted none empty_draft
empty_drafted = record { number = refl; rule = empty_held }

-- a number that is not taken
is_free : {A : Type 0} (o : Option A) → not (is_none o) ≡ false → o ≡ none
is_free none e = refl
is_free (some a) e = absurd (true≢false e)

-- where the counts stay, the heads are those before with the rules' heads after
heads_kept : (before after : State) → after.value.heads.counts ≡ before.value.heads.counts
    → after.value.heads ≡ with_rule_heads before.value.heads (state_rules after)
heads_kept before after e = rw (← e) refl

-- A DRAFT THAT IS POSTED under a free number, on memory that represents a ledger: it represents the ledger with the rule in force, and the draft that it had
pub posted_represents : (posted : Draft) (before after : State) (given : Answer) → Posted posted before given after → (L : Ledger) → LedgerShape L → Represents L before
    → posted.number < 64 → get_or L.board.rules posted.number none ≡ none → (r : Rule) → GoodRule L.board.counts r → RuleHeld r posted.rule
    → Represents (record { board = with_rule L.board posted.number (some r); draft = L.draft; marks = L.marks }) after
posted_represents posted before after given done L shape is small free r good held =
    let number : posted.number % 64 ≡ posted.number = omega arith in
    record {
      stored = rw (heads_kept before after done.counts)
          (post_stored L.board shape.board posted.number small free r good held
          before.value.heads before.rows before.killers before.slots is.stored (state_rules after) (rw number at done.done));
      drafted = rw done.draft is.drafted;
    }

-- KIND 4
module _ (before : State) (ns : List ℕ) where
  abbrev checks : List (Bool × ℕ)
  checks = post_checks before.value.heads.counts before.value.heads.arity before.value.draft.number before.value.draft.rule.arity

  -- a refusal changes nothing
  pub post_refused : (f : Refusal) → number f ≡ first_of checks → KindPromise before kind.Post ns (Err f) before
  post_refused f e = promise_refused before kind.Post ns f (λ L shape is. e ∙ post_checks_same L shape before is ns)

  -- the draft is posted, and the one that is left is none
  module _ (given : Answer) (left : State) (done : Posted before.value.draft before given left) (kept : Draft) (is-empty : kept ≡ empty_draft) where
    abbrev after : State
    after = state_of (with_draft left.value kept) left.rows left.killers left.slots

    post_reports : (B : Board) → length before.slots ≡ slots_length → Reports B kind.Post before after (post_report done.struck)
    post_reports B size =
        record {
          struck = post_struck size done.done;
          reopened = sym (post_reopened size done.done);
          own = record { none_reopened = refl; touched = refl };
        }

    post_represents : (L : Ledger) → LedgerShape L → Represents L before → first_of (kind_conditions L kind.Post ns) ≡ 0 → Represents (effect L kind.Post ns) after
    post_represents L shape is accepted =
        let fails = none_holds (kind_conditions L kind.Post ns) tt accepted in
        go L.draft is.drafted shape.draft (fails refused.no_draft) (fails refused.in_force)
      where
        go : (o : Option NumberedRule) → Drafted o before.value.draft
            → ((d : NumberedRule) → o ≡ some d → (d.number < 64) × GoodRule L.board.counts d.rule) → is_none o ≡ false → not (not_in_force? L (draft_or o).number) ≡ false
            → Represents (record { board = with_rule L.board (draft_or o).number (some (draft_or o).rule); draft = none; marks = L.marks }) after
        go none drafted good some-draft free = absurd (true≢false some-draft)
        go (some d) drafted good some-draft free =
            let g = good d refl in
            let small : before.value.draft.number < 64 = omega (arith, drafted.number, g.0) in
            let untaken = is_free (get_or L.board.rules d.number none) free in
            let h = posted_represents before.value.draft before left given done L shape is small (rw drafted.number untaken) d.rule g.1 drafted.rule in
            record { stored = rw drafted.number at h.stored; drafted = rw is-empty empty_drafted }

    pub post_accepted : 0 ≡ first_of checks → KindPromise before kind.Post ns given after
    post_accepted e =
        rw done.answer_is
        (promise_accepted before kind.Post ns after (post_report done.struck)
        (λ L shape is.
        let passes = e ∙ post_checks_same L shape before is ns in (
          passes,
          post_reports L.board is.stored.slots_size,
          post_represents L shape is (sym passes),
        )))

-- A RULE THAT IS RETRACTED
module _ (n : ℕ) (before after : State) (given : Answer) (done : Retracted n before given after) (L : Ledger) (shape : LedgerShape L) (is : Represents L before) (ln : n < 64) where
  pub retracted : RetractStored L.board n before.value.heads (state_rules after) before.killers after.killers before.slots after.slots done.reopened done.touched
  retracted =
      let number : n % 64 ≡ n = omega arith in
      retract_stored L.board shape.board n ln before.value.heads before.rows before.killers before.slots is.stored (rw number at done.done)

  -- the memory represents the ledger without a rule there
  pub retracted_represents : Represents (record { board = with_rule L.board n none; draft = L.draft; marks = L.marks }) after
  retracted_represents = record { stored = rw (heads_kept before after done.counts) retracted.stored; drafted = rw done.draft is.drafted }

-- KIND 5
module _ (n : ℕ) (before : State) (ns : List ℕ) where
  pub retract_refused : (f : Refusal) → number f ≡ first_of (retract_checks before.value.heads.counts before.value.heads.arity n)
      → KindPromise before (kind.Retract n) ns (Err f) before
  retract_refused f e = promise_refused before (kind.Retract n) ns f (λ L shape is. e ∙ retract_checks_same L shape before is n ns)

  module _ (given : Answer) (after : State) (done : Retracted n before given after) where
    retract_reports : {B : Board} → RetractStored B n before.value.heads (state_rules after) before.killers after.killers before.slots after.slots done.reopened done.touched
        → Reports B (kind.Retract n) before after (retract_report done.reopened done.touched)
    retract_reports h =
        record {
          struck = sym h.none_struck;
          reopened = sym h.reopened_is;
          own = record { none_struck = refl; touched = h.touched_is };
        }

    pub retract_accepted : 0 ≡ first_of (retract_checks before.value.heads.counts before.value.heads.arity n) → KindPromise before (kind.Retract n) ns given after
    retract_accepted e =
        rw done.answer_is
        (promise_accepted before (kind.Retract n) ns after (retract_report done.reopened done.touched)
        (λ L shape is.
        let passes = e ∙ retract_checks_same L shape before is n ns in
        let named = none_holds (kind_conditions L (kind.Retract n) ns) tt (sym passes) refused.bad_number in
        let ln : n < 64 = omega (arith, ltb-false 63 n named) in (
          passes,
          retract_reports (retracted n before after given done L shape is ln),
          retracted_represents n before after given done L shape is ln,
        )))
