-- THE CHECKS OF KIND 6 OVER THE BYTES, as the code makes them on any slot counts and slot bytes, and what it gives back. On a state that is a ledger's the first that holds is that of
-- SCOPE 4.3 (Laws/Checks).
use Rattle.std.specs.Prelude.{◌≡◌, Bool, ◌||◌, List, [], ◌∷◌, ◌++◌, ℕ, length, eqb, ltb, Result, Ok}
use Rattle.layout.specs.declared.value.Draft.{Draft}
use Rattle.layout.specs.Places.{cancelled?}
use Rattle.model.specs.declared.command.GapRule.{GapRule}
use Rattle.model.specs.Gaps.{bad_form?, bad_gap?}
use Rattle.model.specs.Ledger.{bad_number?}
use Rattle.model.specs.Representation.{no_calls?}
use Rattle.model.specs.Refusals.{first_of, number_of}
use Rattle.model.specs.Numbers as refused
use Rattle.model.specs.declared.refusal.Refusal.{Refusal}
use Rattle.command_draft.specs.Fields.{off_board?}
use Rattle.command_gap.specs.Draft.{rows_by, DraftOfGap}

-- of the five fields
abbrev pub field_checks : List ℕ → List ℕ → GapRule → List (Bool × ℕ)
field_checks counts slots f =
    (no_calls? counts, refused.no_board)
    ∷ (bad_number? f.number, refused.bad_number)
    ∷ (bad_form? f.form, refused.bad_form)
    ∷ (off_board? counts f.first || off_board? counts f.second, refused.call_off_board)
    ∷ (cancelled? slots f.first || cancelled? slots f.second, refused.cancelled_call)
    ∷ (eqb f.first f.second, refused.call_twice)
    ∷ (bad_gap? f.form f.gap, refused.bad_gap)
    ∷ []

-- of the pairs that fit, and of both
abbrev pub pair_checks : List ℕ → GapRule → List (Bool × ℕ)
pair_checks counts f = (ltb 64 (length (rows_by counts f)), refused.too_many_pairs) ∷ []

abbrev pub gap_checks : List ℕ → List ℕ → GapRule → List (Bool × ℕ)
gap_checks counts slots f = field_checks counts slots f ++ pair_checks counts f

-- WHAT IS GIVEN BACK: the first refusal that holds, or the rule's draft, which has as many rows as pairs fit
pub record RedrawsGap (counts slots : List ℕ) (f : GapRule) (r : Result Draft Refusal) : Type 0 where
  pub number : number_of r ≡ first_of (gap_checks counts slots f)
  pub drawn : (d : Draft) → r ≡ Ok d → DraftOfGap counts f (record { draft = d; count = d.rule.length })
