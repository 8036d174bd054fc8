-- A step, and so propagation, keeps the lengths, only strikes, and only kills by struck slots. Assumes nothing.
use Rattle.std.specs.Prelude.{◌≡◌, List, ◌⊎◌, ℕ, ◌+◌, ◌*◌, ◌-◌, ◌≤◌, ◌<◌, get_or}
use Rattle.std.proofs.Common.{sym, ◌∙◌, inl, inr, ⊎_elim, arith}
use Rattle.tables.specs.Lost.{OnlyLost, lost}
use Rattle.filter_propagate.specs.Rules.{RuleBytes, Progress}
use Rattle.filter_support.specs.Rows.{Killed}
use Rattle.filter_support.specs.Strikes.{is_open, is_struck}
use Rattle.filter_propagate.specs.Step.{Revised, Stepped}
use Rattle.filter_propagate.specs.Steps.{Steps, Propagated}
use Rattle.layout.specs.Places.{columns_of, rows_of}
use Rattle.layout.specs.Bounds.{Sizes}
use Rattle.tables.specs.Laws.Lost.{only_none, only_more, lost_count}
use Rattle.tables.specs.Laws.Facts.{eq_or_ne, lt_or_le}
use Rattle.filter_support.specs.Laws.Strikes.{open_not_struck, strikes_only}
use Rattle.filter_propagate.specs.Laws.Steps.{along}
use Rattle.filter_propagate.specs.Kept.{Kill}

-- each killer byte is as it was, or its row was killed
pub revised_killers : (R : RuleBytes) (p : ℕ) {r : ℕ} {killers killed slots struck : List ℕ} → Revised R p r killers killed slots struck
    → (j : ℕ) → (get_or killed j 0 ≡ get_or killers j 0) ⊎ Kill R slots p j (get_or killers j 0) (get_or killed j 0)
revised_killers R p {killers = killers} {killed = killed} {slots = slots} v j =
    ⊎_elim
    (λ (h : j < 64 * p). inl (v.kills.below j h))
    (λ (h : 64 * p ≤ j).
    ⊎_elim
    (λ (g : j < 64 * p + rows_of R.lengths p). mid (j - 64 * p) (omega arith) (omega arith))
    (λ (g : 64 * p + rows_of R.lengths p ≤ j). inl (v.kills.above j g))
    (lt_or_le j (64 * p + rows_of R.lengths p)))
    (lt_or_le j (64 * p))
  where
    mid : (w : ℕ) → w < rows_of R.lengths p → 64 * p + w ≡ j → (get_or killed j 0 ≡ get_or killers j 0) ⊎ Kill R slots p j (get_or killers j 0) (get_or killed j 0)
    mid w lw e =
        let x : Killed R.rows slots R.scope p (columns_of R.arity p) w (get_or killers j 0) (get_or killed j 0) = rw e at (v.kills.inside w lw) in
        ⊎_elim
        (λ (o : get_or killers j 0 ≡ 255).
        ⊎_elim
        (λ y. inl (y.0 ∙ sym o))
        (λ y. inr (record { was = o; row = w; inside = lw; place = sym e; column = y.0; struck = y.1.here y.0 }))
        (x.living o))
        (λ ne. inl (x.dead ne))
        (eq_or_ne (get_or killers j 0) 255)

pub revised_sizes : {R : RuleBytes} {p r : ℕ} {killers killed slots struck : List ℕ} → Revised R p r killers killed slots struck → (rows : List ℕ) → Sizes rows killers slots → Sizes rows killed struck
revised_sizes v rows s =
    record {
      rows_size = s.rows_size;
      killers_size = v.kills.len ∙ s.killers_size;
      slots_size = v.strikes.assigned.len ∙ s.slots_size;
    }

module _ (R : RuleBytes) {p r : ℕ} {x y : Progress} (st : Stepped R p r x y) where
  pub step_sizes : (rows : List ℕ) → Sizes rows x.killers x.slots → Sizes rows y.killers y.slots
  step_sizes = revised_sizes st.revised

  pub step_slots : OnlyLost 0 is_open is_struck x.slots y.slots
  step_slots = strikes_only st.rule st.revised.strikes

  pub step_killers : (j : ℕ) → (get_or y.killers j 0 ≡ get_or x.killers j 0) ⊎ Kill R x.slots p j (get_or x.killers j 0) (get_or y.killers j 0)
  step_killers = revised_killers R p st.revised

pub steps_slots : (R : RuleBytes) {x z : Progress} → Steps R x z → OnlyLost 0 is_open is_struck x.slots z.slots
steps_slots R {x} =
    along R (λ y. OnlyLost 0 is_open is_struck x.slots y.slots)
    (λ p r y z st o. only_more 0 is_open is_struck open_not_struck o (step_slots R st))
    (only_none 0 is_open is_struck open_not_struck x.slots)

-- THE COUNT of a propagation is that of the slots open before and struck after
pub propagated_lost : (R : RuleBytes) {r : ℕ} {x z : Progress} → Propagated R r x z → r ≡ lost is_open is_struck x.slots z.slots
propagated_lost R {x = x} {z = z} v =
    let d = v.drop in
    omega (arith, lost_count 0 is_open is_struck open_not_struck x.slots z.slots (steps_slots R v.steps))
