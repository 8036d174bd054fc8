-- KIND 6'S CHECKS ARE THE LEDGER'S CONDITIONS on a state that is a ledger's, and the draft that it leaves is the stepped ledger's. Assumes nothing.
use Rattle.std.specs.Prelude.{◌≡◌, refl, Bool, false, ◌||◌, List, ℕ, zero, suc, ◌<◌, ◌≤◌, length, ltb, leb, Result, Ok, Err}
use Rattle.std.proofs.Common.{sym, ap, ◌∙◌, arith, le-ltb, lt-ltb, ltb-false, leb-false}
use Rattle.layout.specs.declared.value.Heads.{Heads}
use Rattle.layout.specs.declared.value.Draft.{Draft}
use Rattle.layout.specs.declared.value.Value.{Value}
use Rattle.layout.specs.Places.{cancelled?}
use Rattle.model.specs.declared.command.GapRule.{GapRule}
use Rattle.model.specs.declared.command.Command.TheVariants as kind
use Rattle.model.specs.Board.{cancelled_on?}
use Rattle.model.specs.Gaps.{rule_of_gap}
use Rattle.model.specs.Ledger.{Ledger, LedgerShape, kind_conditions}
use Rattle.model.specs.Representation.{Stored}
use Rattle.model.specs.Refusals.{number, first_of, number_of}
use Rattle.model.specs.Numbers as refused
use Rattle.model.proofs.Laws.Cancelled.{cancelled_held}
use Rattle.model.proofs.Laws.Tests.{or_false}
use Rattle.model.proofs.Laws.Heads.{no_calls}
use Rattle.model.proofs.Laws.Refusals.{Agree, none as no_more, next, agree_first, none_holds, number_not_zero, first_stands, rest_decides}
use Rattle.model.specs.declared.refusal.Refusal.{Refusal}
use Rattle.model.specs.declared.refusal.Refusal.TheVariants as kind_of_refusal
use Rattle.command_draft.specs.Fields.{off_board?}
use Rattle.command_draft.proofs.Laws.Fields.{off_board_same}
use Rattle.command_draft.proofs.Laws.Redraft.{RedraftRight}
use Rattle.command_gap.specs.declared.draft.GapDraft.{GapDraft}
use Rattle.command_gap.specs.Draft.{rows_by, DraftOfGap}
use Rattle.command_gap.specs.Checks.{field_checks, pair_checks, gap_checks, RedrawsGap}
use Rattle.command_gap.proofs.Laws.Draft.{pairs_are_rows, gap_held}

-- WHAT IS GIVEN BACK, on any counts and slot bytes: refused by a field, by the number of pairs, or not at all
module _ (counts slots : List ℕ) (f : GapRule) where
  refused_draws : (e : Refusal) → number e ≡ first_of (gap_checks counts slots f) → RedrawsGap counts slots f (Err e)
  refused_draws e is = record { number = is; drawn = λ d q. let z : ◌≡◌ {A = ℕ} 0 1 = cc in absurd (omega arith) }

  pub redraws_refused : (e : Refusal) → number e ≡ first_of (field_checks counts slots f) → RedrawsGap counts slots f (Err e)
  redraws_refused e is = refused_draws e (stands (number e) refl)
    where
      stands : (n : ℕ) → number e ≡ n → number e ≡ first_of (gap_checks counts slots f)
      stands zero z = absurd (number_not_zero e z)
      stands (suc n) z = z ∙ sym (first_stands (field_checks counts slots f) (pair_checks counts f) n (sym is ∙ z))

  -- the fields pass, and so many pairs fit
  module _ (passes : 0 ≡ first_of (field_checks counts slots f)) (made : GapDraft) (by : DraftOfGap counts f made) where
    last_decides : first_of (gap_checks counts slots f) ≡ first_of (pair_checks counts f)
    last_decides = rest_decides (field_checks counts slots f) (pair_checks counts f) tt (sym passes)

    pub redraws_full : 64 < made.count → RedrawsGap counts slots f (Err kind_of_refusal.TooManyPairs)
    redraws_full many =
        refused_draws kind_of_refusal.TooManyPairs (sym (last_decides ∙ rw (lt-ltb 64 (length (rows_by counts f)) (omega (arith, by.listed.count_is))) refl))

    pub redraws_made : made.count ≤ 64 → RedrawsGap counts slots f (Ok made.draft)
    redraws_made few =
        record {
          number = sym (last_decides ∙ rw (le-ltb 64 (length (rows_by counts f)) (omega (arith, by.listed.count_is))) refl);
          drawn = λ d e. let same : made.draft ≡ d = cc in rw (← same) whole;
        }
      where
        all : made.draft.rule.length ≡ made.count
        all = omega (arith, by.length_is)

        whole : DraftOfGap counts f (record { draft = made.draft; count = made.draft.rule.length })
        whole =
            record {
              number = by.number;
              arity = by.arity;
              scope = by.scope;
              length_is = omega (arith, by.length_is);
              listed = rw all by.listed;
            }

-- ON A STATE THAT IS A LEDGER'S
module _ (L : Ledger) (shape : LedgerShape L) {heads : Heads} {rows killers slots : List ℕ} (stored : Stored L.board heads rows killers slots) (f : GapRule) where
  -- a call is not on the board
  abbrev missing? : ℕ → Bool
  missing? x = leb (length L.board.counts) x

  -- where 9 does not hold both calls are
  calls_on : missing? f.first || missing? f.second ≡ false → (f.first < length L.board.counts) × (f.second < length L.board.counts)
  calls_on on =
      let both = or_false (missing? f.first) (missing? f.second) on in
      (leb-false (length L.board.counts) f.first both.0, leb-false (length L.board.counts) f.second both.1)

  gap_checks_agree : (ns : List ℕ) → Agree (gap_checks heads.counts slots f) (kind_conditions L (kind.Gap f) ns)
  gap_checks_agree ns =
      let headed = stored.headed in
      let same = off_board_same L.board shape.board heads headed in
      let held = cancelled_held L.board shape.board stored in
      let off : off_board? heads.counts f.first || off_board? heads.counts f.second ≡ missing? f.first || missing? f.second =
      rw (same f.first, same f.second) refl in
      let cancelled : cancelled? slots f.first || cancelled? slots f.second ≡ cancelled_on? L.board f.first || cancelled_on? L.board f.second =
      rw (held f.first, held f.second) refl in
      next (no_calls L.board shape.board heads headed) (λ _.
      next refl (λ _.
      next refl (λ _.
      next off (λ on.
      let there = calls_on on in
      next cancelled (λ _.
      next refl (λ _.
      next refl (λ _.
      next (ap (λ (n : ℕ). ltb 64 n) (ap length (pairs_are_rows L.board shape.board heads headed f there.0 there.1))) (λ _.
      no_more))))))))

  gap_first : (ns : List ℕ) → first_of (gap_checks heads.counts slots f) ≡ first_of (kind_conditions L (kind.Gap f) ns)
  gap_first ns = agree_first (gap_checks_agree ns)

-- KIND 6, from what is given back
module _ (value : Value) (slots : List ℕ) (f : GapRule) where
  pub gap_right : {r : Result Draft Refusal} → RedrawsGap value.heads.counts slots f r → RedraftRight value slots (kind.Gap f) r
  gap_right {r} given =
      record {
        number = λ L shape rows killers is ns. given.number ∙ gap_first L shape is.stored f ns;
        drafted = λ d e L shape rows killers is ns.
            let passes : number_of r ≡ 0 = ap number_of e in
            let good = none_holds (kind_conditions L (kind.Gap f) ns) tt (sym (gap_first L shape is.stored f ns) ∙ sym given.number ∙ passes) in
            let there = calls_on L shape is.stored f (good refused.call_off_board) in
            let few = ltb-false 64 (length (rule_of_gap L.board.counts f).rows) (good refused.too_many_pairs) in
            record { number = (given.drawn d e).number; rule = gap_held L.board shape.board value.heads is.stored.headed f _ (given.drawn d e) there.0 there.1 few };
        board = λ L ns. refl;
        report = λ B before after. record { struck = refl; reopened = refl; own = refl };
      }
