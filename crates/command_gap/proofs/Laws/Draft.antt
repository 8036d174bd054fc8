-- ON A BOARD'S COUNTS THE DRAFT IS THE GAP RULE'S, where its calls are on the board and a rule has room for its rows. Assumes nothing.
use Rattle.std.specs.Prelude.{◌≡◌, refl, List, [], ◌∷◌, ℕ, zero, suc, ◌%◌, ◌<◌, ◌≤◌, min, length, get_or}
use Rattle.std.proofs.Common.{ap, ◌∙◌, arith}
use Rattle.layout.specs.declared.value.Heads.{Heads}
use Rattle.model.specs.declared.command.GapRule.{GapRule}
use Rattle.model.specs.Board.{Board, Shape}
use Rattle.model.specs.Representation.{Headed, RuleHeld}
use Rattle.model.specs.Gaps.{rule_of_gap}
use Rattle.command_gap.specs.declared.draft.GapDraft.{GapDraft}
use Rattle.command_gap.specs.Pairs.{Listed}
use Rattle.command_gap.specs.Draft.{slots_at, rows_by, DraftOfGap}

module _ (B : Board) (shape : Shape B) (heads : Heads) (headed : Headed B heads) where
  -- a call on the board has the slots that the heads say
  slots_read : (x : ℕ) → x < length B.counts → slots_at heads.counts x ≡ get_or B.counts x 0
  slots_read x on =
      let few = shape.calls in
      let e : x % 32 ≡ x = omega arith in
      ap (λ (c : ℕ). get_or heads.counts c 0) e ∙ headed.counts x (omega arith)

  module _ (f : GapRule) (first : f.first < length B.counts) (second : f.second < length B.counts) where
    -- so the pairs that fit are the rule's rows
    pub pairs_are_rows : rows_by heads.counts f ≡ (rule_of_gap B.counts f).rows
    pairs_are_rows =
        let most = (shape.counts f.first first).1 in
        let capped : min (slots_at heads.counts f.first) 32 ≡ get_or B.counts f.first 0 = omega (arith, slots_read f.first first) in
        rw (capped, slots_read f.second second) refl

  module _ (f : GapRule) (r : GapDraft) (by : DraftOfGap heads.counts f r) (first : f.first < length B.counts) (second : f.second < length B.counts) where
    listed_rows : Listed (rule_of_gap B.counts f).rows r.draft.rule.rows r.count
    listed_rows = rw (pairs_are_rows f first second) at by.listed

    columns : (k : ℕ) → k < 4 → get_or (f.first ∷ f.second ∷ 255 ∷ 255 ∷ []) k 0 ≡ get_or (f.first ∷ f.second ∷ []) k 255
    columns zero h = refl
    columns (suc zero) h = refl
    columns (suc (suc zero)) h = refl
    columns (suc (suc (suc zero))) h = refl
    columns (suc (suc (suc (suc k)))) h = absurd (omega arith)

    pub gap_held : length (rule_of_gap B.counts f).rows ≤ 64 → RuleHeld (rule_of_gap B.counts f) r.draft.rule
    gap_held room =
        record {
          scope_size = ap length by.scope;
          rows_size = listed_rows.size;
          arity = by.arity;
          scope = λ k lk. ap (λ (l : List ℕ). get_or l k 0) by.scope ∙ columns k lk;
          length_is = omega (arith, by.length_is, listed_rows.count_is);
          rows = listed_rows.bytes;
        }
