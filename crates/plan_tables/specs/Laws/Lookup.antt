-- A TABLE IS MADE ENTRY BY ENTRY, the four columns of a rule are those that plan_fit speaks of, and rows are made words rule by rule. Assumes nothing.
use Rattle.std.specs.Prelude.{◌≡◌, refl, List, ℕ, ◌+◌, ◌*◌, ◌/◌, ◌%◌, ◌<◌, ◌≤◌, length, get_or, set, replicate}
use Rattle.std.proofs.Common.{ap, ◌∙◌, arith}
use Rattle.std.proofs.Math.Logic.{⊎_elim}
use Rattle.std.proofs.Math.ListN.{length-set}
use Rattle.std.proofs.lemmas.List.{length-replicate}
use Rattle.std.proofs.Math.Seq.{get_or-set_same, get_or-set_other}
use Rattle.std.specs.Int.Bits.{bit_and}
use Rattle.tables.specs.Laws.Facts.{eq_or_ne}
use Rattle.layout.specs.declared.value.Heads.{Heads}
use Rattle.layout.specs.Places.{row_start, rows_of}
use Rattle.masks.specs.Columns.{word_at}
use Rattle.masks.specs.Laws.Columns.{four}
use Rattle.plan_fit.specs.Words.{column_call, ColumnCalls, mask_byte, IsWord}
use Rattle.plan_tables.specs.Lookup.{Entries, RuleColumns, columns_at, words_length, WordsMade, RowWords}

module _ (P : ℕ → ℕ → Type 0) (size : ℕ) where
  pub entries_none : (v : ℕ) → Entries P size 0 (replicate size v)
  entries_none v = record { long = length-replicate size v; each = λ i h. absurd (omega arith) }

  pub entries_more : {n v : ℕ} {l : List ℕ} → Entries P size n l → n < size → P n v → Entries P size (n + 1) (set l n v)
  entries_more {n} {v} {l} x h p =
      record {
        long = length-set l n v ∙ x.long;
        each = λ i li.
            ⊎_elim (λ (e : i ≡ n). rw (e, get_or-set_same l n v 0 (rw x.long h)) p) (λ ne. rw (get_or-set_other l n i v 0 ne) (x.each i (omega arith))) (eq_or_ne i n);
      }

  pub entries_all : {n : ℕ} {l : List ℕ} → Entries P size n l → size ≤ n → Entries P size size l
  entries_all x h = record { long = x.long; each = λ i l. x.each i (omega arith) }

-- THE COLUMNS OF RULE p
module _ (heads : Heads) (slots columns : List ℕ) (made : RuleColumns heads slots columns) (p : ℕ) (small : p < 64) where
  -- entry k of the four
  pub column_at : (k : ℕ) → k < 4 → get_or columns (4 * p + k) 0 ≡ column_call heads slots p k
  column_at k h =
      let a : (4 * p + k) / 4 ≡ p = omega arith in
      let b : (4 * p + k) % 4 ≡ k = omega arith in
      made.each (4 * p + k) (omega arith) ∙ rw (a, b) refl

  pub columns_of_lem : ColumnCalls heads slots p (columns_at columns p)
  columns_of_lem =
      let first : 4 * p + 0 ≡ 4 * p = omega arith in
      record {
        size = refl;
        each = four (λ k. get_or (columns_at columns p) k 0 ≡ column_call heads slots p k) (rw first at (column_at 0 (omega arith))) (column_at 1 (omega arith))
            (column_at 2 (omega arith)) (column_at 3 (omega arith));
      }

-- THE WORDS OF ONE RULE, row by row
module _ (rows : List ℕ) (p mask : ℕ) where
  pub words_none : (l : List ℕ) → WordsMade rows p mask 0 l l
  words_none l = record { long = refl; here = λ w h. absurd (omega arith); before = λ j h. refl }

  pub words_more : {n v : ℕ} {old new : List ℕ} → WordsMade rows p mask n old new → 64 * p + n < length old → v ≡ bit_and (word_at rows (row_start p n)) mask
      → WordsMade rows p mask (n + 1) old (set new (64 * p + n) v)
  words_more {n} {v} {old} {new} x h e =
      record {
        long = length-set new (64 * p + n) v ∙ x.long;
        here = λ w l.
            ⊎_elim (λ (z : w ≡ n). rw z (get_or-set_same new (64 * p + n) v 0 (rw x.long h) ∙ e))
            (λ (ne : w ≡ n → ⊥). get_or-set_other new (64 * p + n) (64 * p + w) v 0 (λ z. ne (omega arith)) ∙ x.here w (omega (arith, ne))) (eq_or_ne w n);
        before = λ j l. get_or-set_other new (64 * p + n) j v 0 (λ z. omega arith) ∙ x.before j l;
      }

-- THE WORDS OF ALL RULES, rule by rule: a rule has no more than 64
module _ (rows lengths columns : List ℕ) where
  pub all_none : (v : ℕ) → RowWords rows lengths columns 0 (replicate words_length v)
  all_none v = record { long = length-replicate words_length v; each = λ p h. absurd (omega arith) }

  pub all_more : {p mask held : ℕ} {old new : List ℕ} → RowWords rows lengths columns p old → held ≡ rows_of lengths p → IsWord (columns_at columns p) mask_byte mask
      → WordsMade rows p mask held old new → RowWords rows lengths columns (p + 1) new
  all_more {p} {mask} {held} {old} {new} x e word y =
      record {
        long = y.long ∙ x.long;
        each = λ q h w l.
            ⊎_elim (λ (z : q ≡ p). let m : w < held = rw (z, ← e) at l in rw z (y.here w m ∙ ap (bit_and (word_at rows (row_start p w))) word.is))
            (λ (ne : q ≡ p → ⊥). y.before (64 * q + w) (omega (arith, ne)) ∙ x.each q (omega (arith, ne)) w l) (eq_or_ne q p);
      }
