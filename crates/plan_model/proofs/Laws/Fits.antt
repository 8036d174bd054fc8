-- THE TESTS SAY WHAT A FULL PLAN ASKS, of the rules as they are read off a board. Assumes nothing.
use Rattle.std.specs.Prelude.{◌≡◌, refl, Bool, false, ◌||◌, List, ◌⊎◌, ℕ, ◌<◌, get_or, eqb}
use Rattle.std.proofs.Common.{ap, arith}
use Rattle.std.proofs.Math.Path.{subst}
use Rattle.std.proofs.Math.Bool.{not}
use Rattle.std.proofs.Math.Logic.{inl, inr, ⊎_elim}
use Rattle.std.proofs.Math.Option.{Option, none, some}
use Rattle.std.proofs.Math.ListN.{length}
use Rattle.std.proofs.Math.Dec.{T, eqb→eq, not_T, T_not}
use Rattle.model.specs.Board.{Rule, Board, call_at, slot_at, cancelled_on?, InForce, Active, RowFits, KeepsRule}
use Rattle.model.specs.Representation.{rule_or, rule_at}
use Rattle.model.proofs.Laws.Tests.{and→, →and, or→, →or, →eqb, T?, some→, →some, every→, →every}
use Rattle.model.proofs.Laws.Theory.{active_below, active_live, below_active, live_not, not_live}
use Rattle.plan_model.specs.Plans.{rules_of, slot_in, fits?, fitted?, binds?, breaks?}
use Rattle.plan_model.specs.Check.{BreaksRule}

module _ (B : Board) (plan : List ℕ) (p : ℕ) where
  abbrev r : Rule
  r = rule_at B p

  abbrev agrees? : ℕ → ℕ → Bool
  agrees? w k = cancelled_on? B (call_at r k) || eqb (slot_at r w k) (slot_in plan (call_at r k))

  fits→ : (w : ℕ) → T (fits? (rules_of B) plan p w) → RowFits B (slot_in plan) r w
  unfolding fits?
  fits→ w t k a =
      ⊎_elim (λ off. absurd (live_not B (call_at r k) (active_live B r k a) off)) (λ e. eqb→eq (slot_at r w k) (slot_in plan (call_at r k)) e)
      (or→ (cancelled_on? B (call_at r k)) (eqb (slot_at r w k) (slot_in plan (call_at r k))) (every→ (length r.scope) (agrees? w) t k (active_below B r k a)))

  →fits : (w : ℕ) → RowFits B (slot_in plan) r w → T (fits? (rules_of B) plan p w)
  unfolding fits?
  →fits w fit =
      →every (length r.scope) (agrees? w)
      (λ k h.
      →or (cancelled_on? B (call_at r k)) (eqb (slot_at r w k) (slot_in plan (call_at r k)))
      (⊎_elim (λ off. inl off) (λ n. inr (→eqb (slot_at r w k) (slot_in plan (call_at r k)) (fit k (below_active B r k h (not_live B (call_at r k) n)))))
      (T? (cancelled_on? B (call_at r k)))))

  pub fitted→ : T (fitted? (rules_of B) plan p) → (w : ℕ) × (w < length r.rows) × RowFits B (slot_in plan) r w
  unfolding fitted?
  fitted→ t = let f = some→ (length r.rows) (fits? (rules_of B) plan p) t in (f.0, f.1, fits→ f.0 f.2)

  pub →fitted : (w : ℕ) → w < length r.rows → RowFits B (slot_in plan) r w → T (fitted? (rules_of B) plan p)
  unfolding fitted?
  →fitted w h fit = →some (length r.rows) (fits? (rules_of B) plan p) w h (→fits w fit)

  binds→ : T (binds? (rules_of B) p) → (j : ℕ) × Active B r j
  unfolding binds?
  binds→ t = let f = some→ (length r.scope) (λ k. not (cancelled_on? B (call_at r k))) t in (f.0, below_active B r f.0 f.1 f.2)

  →binds : (j : ℕ) → Active B r j → T (binds? (rules_of B) p)
  unfolding binds?
  →binds j a = →some (length r.scope) (λ k. not (cancelled_on? B (call_at r k))) j (active_below B r j a) (active_live B r j a)

  -- a number with a column is in force
  pub column_force : (k : ℕ) → k < length r.scope → InForce B p r
  column_force k h = go (get_or B.rules p none) h refl
    where
      go : (o : Option Rule) → k < length (rule_or o).scope → get_or B.rules p none ≡ o → get_or B.rules p none ≡ some (rule_or (get_or B.rules p none))
      go none h e = absurd (omega arith)
      go (some q) h e = rw e refl

  -- A BROKEN RULE by the test is one
  pub breaks→ : T (breaks? (rules_of B) plan p) → BreaksRule B (slot_in plan) p
  unfolding breaks?
  breaks→ t =
      let both = and→ (binds? (rules_of B) p) (not (fitted? (rules_of B) plan p)) t in
      let bound = binds→ both.0 in
      record {
        rule = r;
        force = column_force bound.0 (active_below B r bound.0 bound.1);
        column = bound.0;
        active = bound.1;
        never = λ w h fit. T_not (fitted? (rules_of B) plan p) both.1 (→fitted w h fit);
      }

  -- and one that is not broken by it is kept
  pub kept→ : breaks? (rules_of B) plan p ≡ false → (q : Rule) → InForce B p q → KeepsRule B (slot_in plan) q
  unfolding breaks?
  kept→ e q f = subst (KeepsRule B (slot_in plan)) (ap rule_or f) (λ j a. go j a (T? (fitted? (rules_of B) plan p)))
    where
      go : (j : ℕ) → Active B r j → T (fitted? (rules_of B) plan p) ⊎ (T (fitted? (rules_of B) plan p) → ⊥)
          → (w : ℕ) × (w < length r.rows) × RowFits B (slot_in plan) r w
      go j a (inl t) = fitted→ t
      go j a (inr n) = absurd (rw e at (→and (binds? (rules_of B) p) (not (fitted? (rules_of B) plan p)) (→binds j a) (not_T (fitted? (rules_of B) plan p) n)))
