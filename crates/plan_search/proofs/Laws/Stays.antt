-- THE TEST OF A SLOT JUST LAID, of the rules as they are read off a board: which rules are due, and that each of them has a row that fits. Assumes nothing.
use Rattle.std.specs.Prelude.{Bool, not, ◌||◌, List, ◌≡◌, ℕ, ◌<◌, length, T, eqb}
use Rattle.std.proofs.Math.Logic.{inl, inr, ⊎_elim}
use Rattle.std.proofs.Common.{arith, eqb→eq, T_not}
use Rattle.std.proofs.Math.Dec.{not_T}
use Rattle.model.specs.Board.{Rule, Board, call_at, cancelled_on?, Active, no_slot_given}
use Rattle.model.specs.Tests.{some?, every?}
use Rattle.model.specs.Representation.{rule_at}
use Rattle.model.proofs.Laws.Tests.{and→, →and, or→, →or, →eqb, T?, some→, →some, every→, →every}
use Rattle.model.proofs.Laws.Theory.{active_below, active_live, below_active, live_not, not_live}
use Rattle.plan_model.specs.Plans.{rules_of, slot_in, fitted?}
use Rattle.plan_search.specs.Search.{laid?, due?, stays?}

-- A CALL IS LAID where its byte is a slot, and not where it is 255
pub not_laid : (plan : List ℕ) (c : ℕ) → slot_in plan c ≡ no_slot_given → T (laid? plan c) → ⊥
not_laid plan c e t = T_not (eqb (slot_in plan c) no_slot_given) t (→eqb (slot_in plan c) no_slot_given e)

pub slot_laid : (plan : List ℕ) (c : ℕ) → slot_in plan c < no_slot_given → T (laid? plan c)
slot_laid plan c h = not_T (eqb (slot_in plan c) no_slot_given) (λ t. let e = eqb→eq (slot_in plan c) no_slot_given t in omega arith)

-- A RULE IS DUE where the call of some column is laid, and that of each active column
pub record RuleDue (B : Board) (plan : List ℕ) (r : Rule) : Type 0 where
  pub column : ℕ
  pub there : column < length r.scope
  pub laid : T (laid? plan (call_at r column))
  pub each : (k : ℕ) → Active B r k → T (laid? plan (call_at r k))

module _ (B : Board) (plan : List ℕ) (p : ℕ) where
  abbrev r : Rule
  r = rule_at B p

  abbrev laid_at? : ℕ → Bool
  laid_at? k = laid? plan (call_at r k)

  abbrev laid_or_off? : ℕ → Bool
  laid_or_off? k = cancelled_on? B (call_at r k) || laid_at? k

  pub due→ : T (due? (rules_of B) plan p) → RuleDue B plan r
  unfolding due?
  due→ t =
      let both = and→ (some? (length r.scope) laid_at?) (every? (length r.scope) laid_or_off?) t in
      let one = some→ (length r.scope) laid_at? both.0 in
      record {
        column = one.0;
        there = one.1;
        laid = one.2;
        each = λ k a.
            ⊎_elim (λ off. absurd (live_not B (call_at r k) (active_live B r k a) off)) (λ l. l)
            (or→ (cancelled_on? B (call_at r k)) (laid_at? k) (every→ (length r.scope) laid_or_off? both.1 k (active_below B r k a)));
      }

  pub →due : RuleDue B plan r → T (due? (rules_of B) plan p)
  unfolding due?
  →due d =
      →and (some? (length r.scope) laid_at?) (every? (length r.scope) laid_or_off?)
      (→some (length r.scope) laid_at? d.column d.there d.laid)
      (→every (length r.scope) laid_or_off?
      (λ k h.
      →or (cancelled_on? B (call_at r k)) (laid_at? k)
      (⊎_elim (λ off. inl off) (λ n. inr (d.each k (below_active B r k h (not_live B (call_at r k) n)))) (T? (cancelled_on? B (call_at r k))))))

-- A SLOT STAYS exactly where each due rule has a row that fits
module _ (B : Board) (plan : List ℕ) where
  abbrev quiet? : ℕ → Bool
  quiet? p = not (due? (rules_of B) plan p) || fitted? (rules_of B) plan p

  pub stays→ : T (stays? (rules_of B) plan) → (p : ℕ) → p < 64 → RuleDue B plan (rule_at B p) → T (fitted? (rules_of B) plan p)
  unfolding stays?
  stays→ t p h d =
      ⊎_elim (λ n. absurd (T_not (due? (rules_of B) plan p) n (→due B plan p d))) (λ f. f)
      (or→ (not (due? (rules_of B) plan p)) (fitted? (rules_of B) plan p) (every→ 64 quiet? t p h))

  pub →stays : ((p : ℕ) → p < 64 → RuleDue B plan (rule_at B p) → T (fitted? (rules_of B) plan p)) → T (stays? (rules_of B) plan)
  unfolding stays?
  →stays all =
      →every 64 quiet?
      (λ p h.
      →or (not (due? (rules_of B) plan p)) (fitted? (rules_of B) plan p)
      (⊎_elim (λ d. inr (all p h (due→ B plan p d))) (λ n. inl (not_T (due? (rules_of B) plan p) n)) (T? (due? (rules_of B) plan p))))
