-- A step keeps every rule stable that is not pending, so after propagation every rule is. Assumes nothing.
use Rattle.std.specs.Prelude.{◌≡◌, refl, List, ◌⊎◌, false, ℕ, ◌+◌, ◌*◌, ◌≤◌, ◌<◌, get_or}
use Rattle.std.proofs.Common.{sym, ◌∙◌, inl, inr, get_or-set_other, ⊎_elim, arith}
use Rattle.filter_propagate.specs.Rules.{RuleBytes, Progress, Distinct}
use Rattle.filter_support.specs.Rows.{Support}
use Rattle.filter_propagate.specs.Step.{Revised, Stepped}
use Rattle.layout.specs.Places.{columns_of, rows_of, call_of, slot_of, killer_of, row_cell}
use Rattle.tables.specs.Laws.Facts.{true_false, eq_or_ne, lt_or_le, find_below, decide_both}
use Rattle.filter_support.specs.Laws.Rows.{lived}
use Rattle.filter_support.specs.Laws.Strikes.{was_open}
use Rattle.filter_propagate.specs.Stable.{StableBytes, Calm}

-- a rule stays stable where its killers, and the slots of its calls, are as they were
pub stable_keep : (R : RuleBytes) (q : ℕ) (killers killed slots struck : List ℕ)
    → ((k s : ℕ) → k < columns_of R.arity q → s < 32 → get_or struck (32 * call_of R.scope q k + s) 0 ≡ get_or slots (32 * call_of R.scope q k + s) 0)
    → ((w : ℕ) → w < rows_of R.lengths q → killer_of killed q w ≡ killer_of killers q w) → StableBytes R killers slots q → StableBytes R killed struck q
unfolding row_cell
stable_keep R q killers killed slots struck same kept st =
    record {
      alive = λ w lw e k lk h.
          st.alive w lw (sym (kept w lw) ∙ e) k lk (rw (same k (slot_of R.rows q w k) lk (omega arith)) at h);
      held = λ k s lk ls o.
          let x = st.held k s lk ls (sym (same k s lk ls) ∙ o) in
          record { row = x.row; inside = x.inside; lives = kept x.row x.inside ∙ x.lives; holds = x.holds };
    }

-- whether a slot has a support is decided
find_support : (rows killers : List ℕ) (p m k s : ℕ) → Support rows killers p m k s ⊎ (Support rows killers p m k s → ⊥)
find_support rows killers p m k s =
    ⊎_elim
    (λ x. inl (record { row = x.0; inside = x.1; lives = x.2.0; holds = x.2.1 }))
    (λ none. inr (λ x. none x.row x.inside (x.lives, x.holds)))
    (find_below _ (λ w. decide_both (eq_or_ne (killer_of killers p w) 255) (eq_or_ne (slot_of rows p w k) s)) m)

-- a rule is stable after its revision, where its calls are different: then no living row of it holds a slot that it struck
module _ (R : RuleBytes) (p : ℕ) (lp : p < 64) (distinct : Distinct R.scope p (columns_of R.arity p)) {r : ℕ} {killers killed slots struck : List ℕ}
    (v : Revised R p r killers killed slots struck) where
  -- a slot of a living row was not struck
  unstruck : (w : ℕ) → w < rows_of R.lengths p → killer_of killed p w ≡ 255 → (k : ℕ) → k < columns_of R.arity p
      → get_or struck (row_cell R.rows R.scope p w k) 0 ≡ get_or slots (row_cell R.rows R.scope p w k) 0
  unfolding row_cell
  unstruck w lw e k lk =
      ⊎_elim
      (λ same. same)
      (λ (_, _, (j, lj, (s, ls, (place, absent)))).
      let one : k ≡ j = distinct k j lk lj (omega arith) in
      let here : slot_of R.rows p w k ≡ s = omega arith in
      absurd (absent (record { row = w; inside = lw; lives = e; holds = rw one at here })))
      (v.strikes.assigned.each (row_cell R.rows R.scope p w k))

  pub stable_revised : StableBytes R killed struck p
  stable_revised =
      record {
        alive = λ w lw e k lk h.
            (lived R.rows slots R.scope p _ _ (omega arith) killers killed w lw v.kills e).1 k lk (rw (unstruck w lw e k lk) at h);
        held = λ k s lk ls o.
            ⊎_elim
            (λ x. x)
            (λ absent.
            let z = v.strikes.assigned.written (32 * call_of R.scope p k + s) (k, lk, (s, ls, (refl, absent))) (was_open lp v.strikes _ o) in
            absurd (omega (arith, o, z)))
            (find_support R.rows killed p (rows_of R.lengths p) k s);
      }

-- A STEP KEEPS the rules stable that are not pending, where the calls of the revised rule are different
module _ (R : RuleBytes) {p r : ℕ} {x y : Progress} (st : Stepped R p r x y) where
  -- the slots on the calls of another rule that is not pending afterwards are as they were
  slots_same : (q : ℕ) → q < 64 → (q ≡ p → ⊥) → get_or y.pending q false ≡ false → (k s : ℕ) → k < columns_of R.arity q → s < 32
      → get_or y.slots (32 * call_of R.scope q k + s) 0 ≡ get_or x.slots (32 * call_of R.scope q k + s) 0
  slots_same q lq ne e k s lk ls =
      ⊎_elim
      (λ same. same)
      (λ t.
      let lp = st.rule in
      let z = t.1 in
      absurd (true_false (st.queue.written q (q, lq, (refl, ne, (k, lk, (s, ls, t.0, λ o. omega arith)))) tt) e))
      (st.revised.strikes.assigned.each (32 * call_of R.scope q k + s))

  -- it was not pending before
  not_pending : (q : ℕ) → (q ≡ p → ⊥) → get_or y.pending q false ≡ false → get_or x.pending q false ≡ false
  not_pending q ne e =
      ⊎_elim
      (λ same. sym (get_or-set_other x.pending p q false false ne) ∙ sym same ∙ e)
      (λ t. absurd (true_false t.1 e))
      (st.queue.each q)

  pub calm_step : Distinct R.scope p (columns_of R.arity p) → Calm R x → Calm R y
  calm_step distinct calm q lq e =
      ⊎_elim
      (λ (h : q ≡ p). rw h (stable_revised R p st.rule distinct st.revised))
      (λ (ne : q ≡ p → ⊥).
      stable_keep R q x.killers y.killers x.slots y.slots (slots_same q lq ne e)
      (λ w lw.
      ⊎_elim
      (λ (l : q < p). st.revised.kills.below (64 * q + w) (omega arith))
      (λ (g : p ≤ q). st.revised.kills.above (64 * q + w) (omega arith))
      (lt_or_le q p))
      (calm q lq (not_pending q ne e)))
      (eq_or_ne q p)
