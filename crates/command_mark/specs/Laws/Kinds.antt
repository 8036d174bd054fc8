-- KINDS 7 AND 8 KEEP THEIR PROMISE: their checks are the ledger's, and what they leave is the stepped ledger's. Assumes nothing.
use Rattle.std.specs.Prelude.{◌≡◌, refl, false, List, ℕ, zero, suc, ◌<◌, get_or, set, eqb, Err}
use Rattle.std.proofs.Common.{sym, ap, ◌∙◌, true≢false, arith, get_or-set_same, get_or-set_other, ltb-false}
use Rattle.std.proofs.Math.Option.{Option, none, some}
use Rattle.std.proofs.Math.Decide.{ℕ_discrete}
use Rattle.layout.specs.declared.value.Heads.{Heads}
use Rattle.layout.specs.declared.value.Value.{Value}
use Rattle.layout.specs.Marks.{marked_slots, with_mark}
use Rattle.layout.specs.Names.{Mark, mark_of, heads_under, mark_under, with_mark_under}
use Rattle.layout.specs.Laws.Names.{under_own, under_other, with_name_size}
use Rattle.layout.specs.Laws.Marks.{with_mark_size}
use Rattle.layout.specs.Memory.{State, MarkedState, state_of, marked_of}
use Rattle.model.specs.declared.refusal.Refusal.{Refusal}
use Rattle.model.specs.declared.answer.Outcome.{Outcome}
use Rattle.model.specs.declared.command.Command.TheVariants as kind
use Rattle.model.specs.Board.{Board}
use Rattle.model.specs.Tests.{is_none}
use Rattle.model.specs.Ledger.{Ledger, LedgerShape, kept_under, kept_or, bad_name?, kind_conditions, effect}
use Rattle.model.specs.Marks.{MarkHeld, RepresentsMarked, kept_as, state_back, brought_back}
use Rattle.model.specs.Refusals.{number, first_of}
use Rattle.model.specs.Promise.{Answer, accepted_with}
use Rattle.model.specs.Representation.{Represents}
use Rattle.model.proofs.Laws.Fresh.{fresh_represents}
use Rattle.model.proofs.Laws.Heads.{no_calls}
use Rattle.model.proofs.Laws.Marks.{stored_sizes, headed_sized, keep_kept, other_held}
use Rattle.model.proofs.Laws.Promised.{marked_refused, marked_accepted}
use Rattle.model.proofs.Laws.Refusals.{none_holds}
use Rattle.model.proofs.Laws.Refusals as refusals
use Rattle.model.specs.Numbers as refused
use Rattle.command_mark.specs.Checks.{keep_checks, kept_byte, back_checks}
use Rattle.command_mark.specs.declared.changes.Changes.{Changes}
use Rattle.command_mark.specs.Back.{PartsBack}
use Rattle.command_mark.specs.Changes.{Between}
use Rattle.command_mark.specs.Kinds.{back_outcome, KeepsBoard, back_report, BringsBack, MarkPromise}

-- the byte of a name, as the code finds it
own_kept : (names : List ℕ) (name : ℕ) → name < 2 → kept_byte names name ≡ (mark_under names name).kept
own_kept names zero known = refl
own_kept names (suc zero) known = refl
own_kept names (suc (suc name)) known = absurd (omega arith)

-- and it says whether the ledger keeps something there
kept_byte_lem : (o : Option Board) (m : Mark) (marks : List ℕ) (name : ℕ) → MarkHeld o m marks name → eqb m.kept 0 ≡ is_none o
kept_byte_lem none m marks name held = rw held refl
kept_byte_lem (some B) m marks name held = rw held.kept refl

module _ (L : Ledger) (shape : LedgerShape L) (m : MarkedState) (is : RepresentsMarked L m) (name : ℕ) (ns : List ℕ) where
  -- THE CHECKS. A name over 1 is refused before it is looked up
  pub keep_checks_same : first_of (keep_checks m.state.value.heads.counts name) ≡ first_of (kind_conditions L (kind.Keep name) ns)
  keep_checks_same =
      refusals.agree_first
      (refusals.next (no_calls L.board shape.board m.state.value.heads is.state.stored.headed)
      (λ on. refusals.next {b = bad_name? name} {n = refused.bad_name} refl (λ small. refusals.none)))

  pub back_checks_same : first_of (back_checks m.state.value.heads.counts m.names name) ≡ first_of (kind_conditions L (kind.Back name) ns)
  back_checks_same =
      refusals.agree_first
      (refusals.next (no_calls L.board shape.board m.state.value.heads is.state.stored.headed)
      (λ on. refusals.next refl
      (λ (small : bad_name? name ≡ false).
      let known : name < 2 = omega (arith, ltb-false 1 name small) in
      refusals.next (ap (λ (b : ℕ). eqb b 0) (own_kept m.names name known) ∙ kept_byte_lem (kept_under L name) (mark_under m.names name) m.marks name (is.held name known))
      (λ some. refusals.none))))

  -- THE BOARD THAT IS KEPT: under its own name this one, under the other what was there
  module _ (known : name < 2) where
    keep_held : (other : ℕ) → other < 2 → Dec (other ≡ name)
        → MarkHeld (get_or (set L.marks name (some L.board)) other none) (mark_under (kept_as m name).names other) (kept_as m name).marks other
    keep_held other is_name (yes same) =
        let heads = m.state.value.heads in
        rw (same, get_or-set_same L.marks name (some L.board) none (omega (arith, shape.names)), under_own m.names name (mark_of heads) is.names_size known (headed_sized is.state.stored.headed))
        (keep_kept m.marks name m.state.rows m.state.killers m.state.slots is.marks_size known L.board heads is.state.stored)
    keep_held other is_name (no apart) =
        rw (get_or-set_other L.marks name other (some L.board) none apart, under_other m.names name (mark_of m.state.value.heads) other apart)
        (other_held m.marks name m.state.rows m.state.killers m.state.slots is.marks_size known (stored_sizes is.state.stored) other apart
        (kept_under L other) (mark_under m.names other) (is.held other is_name))

    pub keep_represents : RepresentsMarked (effect L (kind.Keep name) ns) (kept_as m name)
    keep_represents =
        record {
          state = record { stored = is.state.stored; drafted = is.state.drafted };
          names_size = with_name_size m.names name (mark_of m.state.value.heads) ∙ is.names_size;
          marks_size = with_mark_size m.marks name m.state.rows m.state.killers m.state.slots is.marks_size known (stored_sizes is.state.stored);
          held = λ other is_name. keep_held other is_name (ℕ_discrete other name);
        }

    -- THE BOARD THAT IS BROUGHT BACK is the one that is kept, without a draft
    pub back_represents : is_none (kept_under L name) ≡ false → RepresentsMarked (effect L (kind.Back name) ns) (brought_back m name)
    back_represents some-kept =
        record { state = go (kept_under L name) some-kept (is.held name known); names_size = is.names_size; marks_size = is.marks_size; held = is.held }
      where
        go : (o : Option Board) → is_none o ≡ false → MarkHeld o (mark_under m.names name) m.marks name
            → Represents (record { board = kept_or o; draft = none; marks = L.marks }) (state_back m name)
        go none i held = absurd (true≢false i)
        go (some B) i held = record { stored = held.stored; drafted = fresh_represents.drafted }

-- KIND 7 KEEPS ITS PROMISE
module _ (name : ℕ) (before : MarkedState) where
  pub keep_refused : (f : Refusal) → number f ≡ first_of (keep_checks before.state.value.heads.counts name) → MarkPromise (kind.Keep name) before (Err f) before
  keep_refused f e ns = marked_refused before (kind.Keep name) ns f (λ L shape is. e ∙ keep_checks_same L shape before is name ns)

  pub keep_accepted : (given : Answer) (after : MarkedState) → 0 ≡ first_of (keep_checks before.state.value.heads.counts name) → name < 2
      → KeepsBoard name before given after → MarkPromise (kind.Keep name) before given after
  keep_accepted given after e known keeps ns =
      rw (keeps.answer_is, keeps.left)
      (marked_accepted before (kind.Keep name) ns (kept_as before name) (record { struck = 0; reopened = 0; touched = 0 }) refl
      (λ L shape is. (
        e ∙ keep_checks_same L shape before is name ns,
        record { struck = refl; reopened = refl; own = refl },
        keep_represents L shape before is name ns known,
      )))

  -- AND KIND 8
  pub back_refused : (f : Refusal) → number f ≡ first_of (back_checks before.state.value.heads.counts before.names name)
      → MarkPromise (kind.Back name) before (Err f) before
  back_refused f e ns = marked_refused before (kind.Back name) ns f (λ L shape is. e ∙ back_checks_same L shape before is name ns)

  pub back_accepted : (given : Answer) (after : State)
      → 0 ≡ first_of (back_checks before.state.value.heads.counts before.names name) → name < 2
      → BringsBack name before.names before.marks before.state.slots given after
      → MarkPromise (kind.Back name) before given (marked_of after before.names before.marks)
  back_accepted given after e known brings ns =
      rw (brings.answer_is, brings.left)
      (marked_accepted before (kind.Back name) ns (brought_back before name) (back_report before.state.slots (state_back before name).slots) refl
      (λ L shape is.
      let none = e ∙ back_checks_same L shape before is name ns in
      let some-kept = none_holds (kind_conditions L (kind.Back name) ns) tt (sym none) refused.nothing_kept in (
        none,
        record { struck = refl; reopened = refl; own = refl },
        back_represents L shape before is name ns known some-kept,
      )))

-- where nothing is refused the name is 0 or 1
pub name_known : (counts : List ℕ) (name : ℕ) → 0 ≡ first_of (keep_checks counts name) → name < 2
name_known counts name e = omega (arith, ltb-false 1 name (none_holds (keep_checks counts name) tt (sym e) refused.bad_name))

pub back_known : (counts names : List ℕ) (name : ℕ) → 0 ≡ first_of (back_checks counts names name) → name < 2
back_known counts names name e = omega (arith, ltb-false 1 name (none_holds (back_checks counts names name) tt (sym e) refused.bad_name))

-- WHAT THE FUNCTIONS UNDER THEM LEAVE, from their parts
pub keeps_board : (value : Value) (name : ℕ) (names rows killers slots marks : List ℕ) {r : Outcome} {names' marks' : List ℕ} → r ≡ accepted_with 0 0 0 value
    → names' ≡ with_mark_under names name (mark_of value.heads) → marks' ≡ with_mark marks name rows killers slots
    → KeepsBoard name (marked_of (state_of value rows killers slots) names marks) r.answer (marked_of (state_of r.value rows killers slots) names' marks')
keeps_board value name names rows killers slots marks e e' e'' = rw (e, e', e'') (record { answer_is = refl; left = refl })

pub brings_back : (name : ℕ) (names marks slots : List ℕ) {r : Outcome} {changes : Changes} {heads : Heads} {rows' killers' slots' : List ℕ} → heads ≡ heads_under names name
    → Between slots (marked_slots marks name) changes → PartsBack marks name rows' killers' slots' → r ≡ back_outcome changes heads
    → BringsBack name names marks slots r.answer (state_of r.value rows' killers' slots')
brings_back name names marks slots under between back e =
    rw (e, back.rows_are, back.killers_are, back.slots_are, under) (record { answer_is = rw (between.struck, between.reopened) refl; left = refl })
