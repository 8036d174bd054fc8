-- What a written rule means: the bytes are those of the board with that rule under its number, or with none there, and every other rule is as stable as it was. Assumes nothing.
use Rattle.std.specs.Prelude.{◌≡◌, List, ◌≢◌, ℕ, ◌+◌, ◌*◌, ◌<◌, length, get_or}
use Rattle.std.proofs.Common.{ap, ◌∙◌, ⊎_elim, arith, get_or-set_same, get_or-set_other}
use Rattle.std.proofs.Math.Option.{Option, none}
use Rattle.layout.specs.declared.value.Heads.{Heads}
use Rattle.layout.specs.declared.value.RuleData.{RuleData}
use Rattle.model.specs.Board.{Rule, Board, call_at, slot_at, Shape}
use Rattle.model.specs.Ledger.{with_rule}
use Rattle.model.specs.Representation.{rule_or, rule_at, RuleHeld, Headed}
use Rattle.filter_propagate.specs.Rules.{RuleBytes, rules_in}
use Rattle.filter_propagate.specs.Stable.{StableBytes}
use Rattle.filter_meaning.specs.Rules.{RulesOf}
use Rattle.filter_post.specs.Write.{SameRule, RuleWritten}
use Rattle.layout.specs.Places.{columns_of, rows_of, row_cell}
use Rattle.tables.specs.Laws.Facts.{eq_or_ne}
use Rattle.filter_post.specs.Rules.{with_rule_heads}

-- the rule under the number that is written, and under another
module _ (B : Board) (shape : Shape B) (p : ℕ) (lp : p < 64) (o : Option Rule) where
  pub rule_here : rule_at (with_rule B p o) p ≡ rule_or o
  rule_here = ap rule_or (get_or-set_same B.rules p o none (omega (arith, shape.numbers)))

  pub rule_there : (q : ℕ) → q ≢ p → rule_at (with_rule B p o) q ≡ rule_at B q
  rule_there q ne = ap rule_or (get_or-set_other B.rules p q o none ne)

  -- THE BYTES ARE THOSE OF THE BOARD with the rule, or with none
  module _ {rule : RuleData} (R R' : RuleBytes) (held : RuleHeld (rule_or o) rule) (w : RuleWritten p rule R R') where
    pub written_rules : RulesOf B R → RulesOf (with_rule B p o) R'
    written_rules known =
        record {
          arity = λ q lq. at q (λ r q. get_or R'.arity q 0 ≡ length r.scope) (w.arity ∙ held.arity) (λ ne. (w.other q ne).arity ∙ known.arity q lq);
          scope = λ q k lq lk.
              at q (λ r q. get_or R'.scope (4 * q + k) 0 ≡ call_at r k) (w.scope k lk ∙ held.scope k lk) (λ ne. (w.other q ne).scope k lk ∙ known.scope q k lq lk);
          lengths = λ q lq. at q (λ r q. get_or R'.lengths q 0 ≡ length r.rows) (w.lengths ∙ held.length_is) (λ ne. (w.other q ne).lengths ∙ known.lengths q lq);
          bytes = λ q v k lq lv lk.
              at q (λ r q. get_or R'.rows (256 * q + 4 * v + k) 0 ≡ slot_at r v k) (w.bytes v k lv lk ∙ held.rows v k lv lk)
              (λ ne. (w.other q ne).bytes v k lv lk ∙ known.bytes q v k lq lv lk);
        }
      where
        at : (q : ℕ) (P : Rule → ℕ → Type 0) → P (rule_or o) p → (q ≢ p → P (rule_at B q) q) → P (rule_at (with_rule B p o) q) q
        at q P here there = ⊎_elim (λ (e : q ≡ p). rw (e, rule_here) here) (λ (ne : q ≢ p). rw (rule_there q ne) (there ne)) (eq_or_ne q p)

-- the heads of such a board
pub written_headed : {p : ℕ} {rule : RuleData} {R' : RuleBytes} (B : Board) (o : Option Rule) (h : Heads) (rows : List ℕ) → Headed B h
    → RuleWritten p rule (rules_in rows h) R' → RulesOf (with_rule B p o) R' → Headed (with_rule B p o) (with_rule_heads h R')
written_headed B o h rows headed w known =
    record {
      counts_size = headed.counts_size;
      arity_size = w.arity_size ∙ headed.arity_size;
      scope_size = w.scope_size ∙ headed.scope_size;
      lengths_size = w.lengths_size ∙ headed.lengths_size;
      counts = headed.counts;
      arity = known.arity;
      scope = known.scope;
      lengths = known.lengths;
    }

-- A RULE WHOSE BYTES ARE THE SAME is as stable as it was
pub stable_same : (R R' : RuleBytes) (q : ℕ) (killers slots : List ℕ) → SameRule R R' q → StableBytes R killers slots q → StableBytes R' killers slots q
unfolding row_cell
stable_same R R' q killers slots same st =
    record {
      alive = λ w lw e k lk h.
          let lw' : w < rows_of R.lengths q = rw same.lengths at lw in
          let lk' : k < columns_of R.arity q = rw same.arity at lk in
          st.alive w lw' e k lk' (rw (same.scope k (omega arith), same.bytes w k (omega arith) (omega arith)) at h);
      held = λ k s lk ls o.
          let lk' : k < columns_of R.arity q = rw same.arity at lk in
          let x = st.held k s lk' ls (rw (same.scope k (omega arith)) at o) in
          let inside = x.inside in
          record { row = x.row; inside = rw same.lengths x.inside; lives = x.lives; holds = rw (same.bytes x.row k (omega arith) (omega arith)) x.holds };
    }

pub written_stable : {p : ℕ} {rule : RuleData} {R R' : RuleBytes} → RuleWritten p rule R R' → (killers slots : List ℕ) (q : ℕ) → q ≢ p
    → StableBytes R killers slots q → StableBytes R' killers slots q
written_stable {R = R} {R' = R'} w killers slots q ne st = stable_same R R' q killers slots (w.other q ne) st

-- and a rule without columns is stable
pub empty_stable : (R : RuleBytes) (q : ℕ) (killers slots : List ℕ) → get_or R.arity q 0 ≡ 0 → StableBytes R killers slots q
empty_stable R q killers slots e = record { alive = λ w lw l k lk. absurd (omega arith); held = λ k s lk. absurd (omega arith) }
