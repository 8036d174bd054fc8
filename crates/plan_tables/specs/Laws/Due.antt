-- STAGES, column by column, and the rules that calls make due, rule by rule. Assumes nothing.
use Rattle.std.specs.Prelude.{◌≡◌, List, ◌≢◌, ℕ, ◌+◌, ◌*◌, ◌<◌, ◌≤◌, max, get_or, replicate}
use Rattle.std.proofs.Math.Path.{refl}
use Rattle.std.proofs.Common.{sym, ◌∙◌, ⊎_elim, arith}
use Rattle.std.proofs.lemmas.List.{length-replicate, get_or-replicate}
use borrow.Author.Tests.{lt-ltb, le-ltb, ne_eqb}
use Rattle.tables.specs.Masks.{Has}
use Rattle.tables.specs.Laws.Facts.{eq_or_ne}
use Rattle.tables.specs.Laws.Masks.{mask_none}
use Rattle.masks.specs.Rules.{Inserted}
use Rattle.plan_tables.specs.Due.{column_stage, rule_stage, DueAt, DueRules}

-- OF A COLUMN: it does not count, its call is not to be laid, or it is
module _ (calls : List ℕ) (call : ℕ) where
  pub stage_none : 32 ≤ call → 0 ≡ column_stage calls call
  unfolding column_stage
  stage_none h = rw (le-ltb call 32 h) refl

  pub stage_never : call < 32 → get_or calls call 0 ≡ 0 → 64 ≡ column_stage calls call
  unfolding column_stage
  stage_never h e = rw (lt-ltb call 32 h, e) refl

  pub stage_here : call < 32 → get_or calls call 0 ≢ 0 → call + 1 ≡ column_stage calls call
  unfolding column_stage
  stage_here h n = rw (lt-ltb call 32 h, ne_eqb (get_or calls call 0) 0 n) refl

-- OF A RULE: the largest of its columns' in two pairs
pub stage_is : (calls columns : List ℕ) (p : ℕ) {a b c d first last r : ℕ} → a ≡ column_stage calls (get_or columns (4 * p) 0)
    → b ≡ column_stage calls (get_or columns (4 * p + 1) 0) → first ≡ max a b → c ≡ column_stage calls (get_or columns (4 * p + 2) 0)
    → d ≡ column_stage calls (get_or columns (4 * p + 3) 0) → last ≡ max c d → r ≡ max first last → r ≡ rule_stage calls columns p
unfolding rule_stage
stage_is calls columns p a b first c d last r = rw (← a, ← b, ← c, ← d, ← first, ← last) r

-- THE RULES THAT CALLS MAKE DUE: none, one more, and all
pub due_none : (calls columns : List ℕ) → DueRules calls columns 0 (replicate 32 0)
due_none calls columns =
    record {
      long = length-replicate {A = ℕ} 32 0;
      each = λ c l. let e = get_or-replicate {A = ℕ} 32 c 0 0 l in rw e (mask_none (λ p. rule_stage calls columns p ≡ c + 1));
    }

pub due_more : {calls columns old new : List ℕ} {n stage : ℕ} → stage ≡ rule_stage calls columns n → DueRules calls columns n old → Inserted (DueAt n stage) old new
    → DueRules calls columns (n + 1) new
due_more {calls} {columns} {old} {new} {n} {stage} e x y = record { long = y.size ∙ x.long; each = λ c l. record { has = has c l; only = only c l } }
  where
    has : (c : ℕ) → c < 32 → (q : ℕ) → q < n + 1 → rule_stage calls columns q ≡ c + 1 → Has (get_or new c 0) q
    has c l q lq o =
        ⊎_elim (λ (f : q ≡ n). y.joins c q (f, e ∙ rw f at o, l)) (λ ne. y.stays c q ((x.each c l).has q (omega arith) o)) (eq_or_ne q n)

    only : (c : ℕ) → c < 32 → (q : ℕ) → Has (get_or new c 0) q → (q < n + 1) × (rule_stage calls columns q ≡ c + 1)
    only c l q h =
        ⊎_elim (λ o. let f = (x.each c l).only q o in let lt = f.0 in (omega arith, f.1)) (λ z. let f = z.0 in (omega arith, rw f (sym e ∙ z.1))) (y.only c q h)

pub due_all : {calls columns due : List ℕ} {n : ℕ} → DueRules calls columns n due → n ≤ 64 → 64 ≤ n → DueRules calls columns 64 due
due_all {n = n} x h l = let e : n ≡ 64 = omega arith in rw (← e) x
