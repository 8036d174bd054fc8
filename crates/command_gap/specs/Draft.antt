-- THE DRAFT OF A GAP RULE, as the code makes it of any slot counts.
use Rattle.std.specs.Prelude.{◌≡◌, List, [], ◌∷◌, ℕ, ◌%◌, min, get_or}
use Rattle.model.specs.declared.command.GapRule.{GapRule}
use Rattle.model.specs.Gaps.{rows_of_gap}
use Rattle.command_gap.specs.declared.draft.GapDraft.{GapDraft}
use Rattle.command_gap.specs.Pairs.{Listed}

-- the slots of a call, whose number is taken modulo 32
abbrev pub slots_at : List ℕ → ℕ → ℕ
slots_at counts x = get_or counts (x % 32) 0

-- the pairs of slots that fit
abbrev pub rows_by : List ℕ → GapRule → List (List ℕ)
rows_by counts f = rows_of_gap f.form f.gap (min (slots_at counts f.first) 32) (slots_at counts f.second)

pub record DraftOfGap (counts : List ℕ) (f : GapRule) (r : GapDraft) : Type 0 where
  pub number : r.draft.number ≡ f.number
  pub arity : r.draft.rule.arity ≡ 2
  pub scope : r.draft.rule.scope ≡ f.first ∷ f.second ∷ 255 ∷ 255 ∷ []
  pub length_is : r.draft.rule.length ≡ r.count % 256
  pub listed : Listed (rows_by counts f) r.draft.rule.rows r.count
