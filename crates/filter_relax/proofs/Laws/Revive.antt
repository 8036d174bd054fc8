-- Reviving row by row and rule by rule. Assumes nothing.
use Rattle.std.specs.Prelude.{◌≡◌, refl, List, Bool, cond, ℕ, ◌+◌, ◌-◌, ◌*◌, ◌/◌, ◌%◌, ◌^◌, ◌≤◌, ◌<◌, eqb, length, get_or}
use Rattle.std.proofs.Common.{◌∙◌, ⊎_elim, arith, eq-eqb, ne_eqb}
use Rattle.std.specs.Int.Bits.{bit_and}
use Rattle.std.specs.Int.Count.{count_trailing_zeros}
use Rattle.tables.specs.Masks.{Has, flags_of, all_flags}
use Rattle.tables.specs.Sweep.{Swept}
use Rattle.tables.specs.Laws.Facts.{eq_or_ne, lt_or_le}
use Rattle.tables.specs.Laws.Flags.{flag_set, flag_has}
use Rattle.tables.specs.Laws.Left.{Left, Removed, left_all, left_lowest, left_more, taken_lowest, taken_stays, taken_only, taken_all}
use Rattle.tables.specs.Laws.Masks.{has_below, has_or_not}
use Rattle.masks.specs.declared.columns.Columns.{Columns}
use Rattle.masks.specs.Columns.{RowMasks, ColumnSets}
use Rattle.filter_propagate.specs.Rules.{RuleBytes}
use Rattle.layout.specs.Places.{columns_of, rows_of, killer_of}
use Rattle.filter_relax.specs.Scan.{KillerBits}
use Rattle.filter_relax.specs.Revive.{MaskRevived, RuleFreed, RuleRevived, Blocks}
use Rattle.filter_relax.proofs.Laws.Scan.{killer_met, killer_apart, met_visited, visited_met}

-- ONE ROW: its killer goes where the killer's slot is in the sets
pub row_revived : {rows : List ℕ} {row sets : Columns} {q w old hit : ℕ} → RowMasks rows q w row → KillerBits row sets old hit → MaskRevived rows sets q w old (cond (eqb hit 0) old 255)
row_revived {sets = sets} {hit = hit} masks bits =
    ⊎_elim
    (λ (z : hit ≡ 0). let e = eq-eqb hit 0 z in record { written = λ met. absurd (killer_apart sets masks bits z met); kept = λ out. rw e refl })
    (λ ne. let e = ne_eqb hit 0 ne in record { written = λ met. rw e refl; kept = λ out. absurd (out (killer_met sets masks bits ne)) })
    (eq_or_ne hit 0)

-- ONE RULE: where the sets are the visited of its columns' calls, the killers that go are those whose slot is visited
module _ (R : RuleBytes) (visited : List ℕ) (q : ℕ) {n m : ℕ} {sets : Columns} (columns : n ≡ columns_of R.arity q) (rows : m ≡ rows_of R.lengths q)
    (known : ColumnSets visited R.scope q n sets) where
  pub rule_freed : {a b : List ℕ} → Swept 0 (MaskRevived R.rows sets q) (64 * q) m a b → Swept 0 (RuleFreed R (all_flags 32 visited) q) (64 * q) 64 a b
  rule_freed {a} {b} s =
      record {
        len = s.len;
        inside = λ w lw. ⊎_elim (here w) (past w) (lt_or_le w m);
        below = s.below;
        above = λ j le. s.above j (omega arith);
      }
    where
      here : (w : ℕ) → w < m → RuleFreed R (all_flags 32 visited) q w (get_or a (64 * q + w) 0) (get_or b (64 * q + w) 0)
      here w lt =
          let x = s.inside w lt in
          record {
            written = λ z. x.written (visited_met visited R.rows known w _ (omega arith) (rw columns z.killer));
            kept = λ out. x.kept (λ z. out (record { row = omega arith; killer = rw columns at (met_visited visited R.rows known w _ z) }));
          }

      past : (w : ℕ) → m ≤ w → RuleFreed R (all_flags 32 visited) q w (get_or a (64 * q + w) 0) (get_or b (64 * q + w) 0)
      past w le = record { written = λ z. let lt = z.row in absurd (omega arith); kept = λ out. s.above (64 * q + w) (omega arith) }

-- THE RULES OF A MASK, from the lowest on: the killers of those that are not left went by S, and no other changed
pub record RulesRevived (S : ℕ → ℕ → ℕ → ℕ → Type 0) (rules left : ℕ) (old new : List ℕ) : Type 0 where
  pub lowest : Left 64 rules left
  pub len : length new ≡ length old
  pub went : (q w : ℕ) → w < 64 → Removed rules left q → S q w (killer_of old q w) (killer_of new q w)
  pub kept : (q w : ℕ) → w < 64 → (Removed rules left q → ⊥) → killer_of new q w ≡ killer_of old q w

module _ (S : ℕ → ℕ → ℕ → ℕ → Type 0) where
  pub rules_none : (rules : ℕ) (l : List ℕ) → rules < 2 ^ 64 → RulesRevived S rules rules l l
  rules_none rules l h = record { lowest = left_all 64 rules h; len = refl; went = λ q w lw t. absurd (t.out t.had); kept = λ q w lw out. refl }

  -- another rule's killers are outside what is swept
  swept_other : {t : ℕ} (a b : List ℕ) → Swept 0 (S t) (64 * t) 64 a b → (q w : ℕ) → w < 64 → (q ≡ t → ⊥) → killer_of b q w ≡ killer_of a q w
  swept_other {t} a b s q w lw ne =
      ⊎_elim (λ (l : q < t). s.below (64 * q + w) (omega arith)) (λ (l : t ≤ q). s.above (64 * q + w) (omega arith)) (lt_or_le q t)

  pub rules_more : {rules left : ℕ} {a b c : List ℕ} → (left ≡ 0 → ⊥) → RulesRevived S rules left a b → Swept 0 (S (count_trailing_zeros 64 left)) (64 * count_trailing_zeros 64 left) 64 b c
      → RulesRevived S rules (bit_and left (left - 1)) a c
  rules_more {rules} {left} {a} {b} {c} some x s = record { lowest = left_more some x.lowest; len = s.len ∙ x.len; went = went; kept = kept }
    where
      t : ℕ
      t = count_trailing_zeros 64 left

      still : Removed rules left t → ⊥
      still z = z.out (left_lowest some x.lowest).here

      went : (q w : ℕ) → w < 64 → Removed rules (bit_and left (left - 1)) q → S q w (killer_of a q w) (killer_of c q w)
      went q w lw z =
          ⊎_elim
          (λ z. rw (swept_other b c s q w lw (λ e. still (rw e at z))) (x.went q w lw z))
          (λ (e : q ≡ t). rw (e, ← x.kept t w lw still) (s.inside w lw))
          (taken_only some x.lowest q z)

      kept : (q w : ℕ) → w < 64 → (Removed rules (bit_and left (left - 1)) q → ⊥) → killer_of c q w ≡ killer_of a q w
      kept q w lw out =
          swept_other b c s q w lw (λ e. out (rw e (taken_lowest some x.lowest)))
          ∙ x.kept q w lw (λ z. out (taken_stays some x.lowest q z))

-- after the last round
pub rules_done : {R : RuleBytes} {visited : List Bool} {rules left : ℕ} {old new : List ℕ} → rules < 2 ^ 64 → left ≡ 0 → RulesRevived (RuleFreed R visited) rules left old new
    → Blocks (RuleRevived R visited (flags_of 64 rules)) 64 old new
rules_done {R} {visited} {rules} {left} {old} {new} small z x = record { len = x.len; inside = λ q w lq lw. ⊎_elim (flagged q w lq lw) (other q w lq lw) (has_or_not rules q); above = above }
  where
    flagged : (q w : ℕ) → q < 64 → w < 64 → Has rules q → RuleRevived R visited (flags_of 64 rules) q w (killer_of old q w) (killer_of new q w)
    flagged q w lq lw h =
        let y = x.went q w lw (taken_all z h) in
        record { written = λ f. y.written f.freed; kept = λ out. y.kept (λ f. out (record { flag = flag_set 64 rules q lq h; freed = f })) }

    other : (q w : ℕ) → q < 64 → w < 64 → (Has rules q → ⊥) → RuleRevived R visited (flags_of 64 rules) q w (killer_of old q w) (killer_of new q w)
    other q w lq lw n = record { written = λ f. absurd (n (flag_has 64 rules q lq f.flag)); kept = λ out. x.kept q w lw (λ t. n t.had) }

    above : (j : ℕ) → 64 * 64 ≤ j → get_or new j 0 ≡ get_or old j 0
    above j le =
        let e : 64 * (j / 64) + j % 64 ≡ j = omega arith in
        rw e at (x.kept (j / 64) (j % 64) (omega arith) (λ t. let l = has_below 64 rules (j / 64) small t.had in omega arith))
