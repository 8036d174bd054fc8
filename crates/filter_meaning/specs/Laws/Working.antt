-- A step keeps a board at work. Assumes nothing.
use Rattle.std.specs.Prelude.{◌≡◌, refl, ◌≢◌, ℕ, ◌+◌, ◌*◌, ◌≤◌, ◌<◌, length, get_or}
use Rattle.std.proofs.Common.{sym, ap, ◌∙◌, inl, inr, ⊎_elim, arith, ext_get_or}
use Rattle.std.proofs.Math.Option.{Option, none, some}
use Rattle.tables.specs.Assign.{Below}
use Rattle.model.specs.Board.{Rule, Board, call_at, slot_at, OnBoard, InForce, InScope, Holds, Shape}
use Rattle.model.specs.Records.{Struck, KillerIn, Sound}
use Rattle.model.specs.Representation.{rule_or, rule_at, off_byte}
use Rattle.model.proofs.Laws.Theory.{on_live, active_below, below_active}
use Rattle.model.proofs.Laws.Change.{strike_sound, kill_sound, on_range, off_limits, byte_on}
use Rattle.filter_propagate.specs.Rules.{RuleBytes, Progress}
use Rattle.filter_support.specs.Rows.{Unsupported}
use Rattle.filter_support.specs.Strikes.{ColumnWith}
use Rattle.filter_propagate.specs.Step.{Stepped}
use Rattle.filter_propagate.specs.Steps.{Steps}
use Rattle.filter_propagate.specs.Kept.{Kill}
use Rattle.filter_meaning.specs.Rules.{RulesOf}
use Rattle.layout.specs.Places.{columns_of, rows_of, cause_of, killer_of}
use Rattle.filter_propagate.specs.Laws.Steps.{along}
use Rattle.filter_propagate.specs.Laws.Stable.{calm_step}
use Rattle.filter_propagate.specs.Laws.Kept.{step_sizes, step_killers}
use Rattle.filter_meaning.specs.Laws.Rules.{read_as, distinct}
use Rattle.filter_meaning.specs.Working.{Working}
use Rattle.model.specs.Changes.{Strikes, Kills}

module _ (B : Board) (shape : Shape B) (R : RuleBytes) {p r : ℕ} {x y : Progress} (st : Stepped R p r x y) (known : RulesOf B R)
    (off : (c s : ℕ) → c < 32 → s < 32 → (OnBoard B c s → ⊥) → cause_of x.slots c s ≡ off_byte B c s) where
  -- the killer that a row got is the column of a struck slot of it
  got_killer : (q : ℕ) (u : Rule) → InForce B q u → (w : ℕ) → w < length u.rows → Kill R x.slots p (64 * q + w) (killer_of x.killers q w) (killer_of y.killers q w)
      → KillerIn B (killer_of y.killers) (Struck B (cause_of x.slots)) u q w
  got_killer q u f w lw k =
      let b = read_as B shape R known q u f in
      let few = (shape.rules q u f).few in
      let inside = k.inside in
      let place = k.place in
      let own : p ≡ q = omega arith in
      let row : k.row ≡ w = omega arith in
      let lk : killer_of y.killers q w < length u.scope = omega (arith, rw own at k.column) in
      let c = call_at u (killer_of y.killers q w) in
      let s = slot_at u w (killer_of y.killers q w) in
      let good = shape.rules q u f in
      let most = (shape.counts c (good.scope (killer_of y.killers q w) lk)).1 in
      let struck : cause_of x.slots c s < 64 = rw (own, row, b.place w (killer_of y.killers q w) lw lk) at k.struck in
      let on = byte_on B (cause_of x.slots) off c s (b.call_below (killer_of y.killers q w) lk) (omega (arith, good.slots w (killer_of y.killers q w) lw lk)) (inr struck) in
      record { column = below_active B u (killer_of y.killers q w) lk (on_live B c s on); member = (on, struck) }

  step_kills : Kills B (cause_of x.slots) (killer_of x.killers) (killer_of y.killers)
  step_kills =
      record {
        kept = λ q w n. ⊎_elim (λ e. e) (λ k. absurd (n k.was)) (step_killers R st (64 * q + w));
        each = λ q u f w lw. ⊎_elim (λ e. inl e) (λ k. inr (got_killer q u f w lw k)) (step_killers R st (64 * q + w));
      }

  -- a slot that is struck is on a call of the rule, and no living row of the rule holds it
  struck_here : (u : Rule) → InForce B p u → (c s : ℕ) → OnBoard B c s
      → Below (ColumnWith (Unsupported R.rows y.killers p (rows_of R.lengths p)) R.scope p) (columns_of R.arity p) (32 * c + s)
      → InScope B u c × ((w : ℕ) → w < length u.rows → Holds B u w c s → killer_of y.killers p w ≢ 255)
  struck_here u f c s on (k, lk, (t, lt, (place, absent))) =
      let b = read_as B shape R known p u f in
      let lk' : k < length u.scope = omega arith in
      let range = on_range B shape c s on in
      let call : call_at u k ≡ c = omega (arith, b.call k lk', range.2) in
      let slot : s ≡ t = omega (arith, range.2) in (
        record { column = k; active = below_active B u k lk' (rw call (on_live B c s on)); call = call },
        λ w lw hd e.
            let one = b.one_column hd.column k (active_below B u hd.column hd.active) lk' (hd.call ∙ sym call) in
            let held : slot_at u w k ≡ s = rw one at hd.slot in
            absent (record { row = w; inside = omega arith; lives = e; holds = b.slot w k lw lk' ∙ held ∙ slot }),
      )

  step_strikes : (u : Rule) → InForce B p u → Strikes B p u (killer_of y.killers) (cause_of x.slots) (cause_of y.slots)
  step_strikes u f =
      let marks = st.revised.strikes.assigned in
      record {
        kept = λ c s n. ⊎_elim (λ e. e) (λ t. absurd (n t.0)) (marks.each (32 * c + s));
        each = λ c s on. ⊎_elim (λ e. inl e) (λ t. let h = struck_here u f c s on t.2 in inr (t.0, t.1, h.0, h.1)) (marks.each (32 * c + s));
      }

  -- under a number that is not in force nothing is struck
  none_struck : get_or B.rules p none ≡ none → y.slots ≡ x.slots
  none_struck free =
      let z : get_or R.arity p 0 ≡ 0 = known.arity p st.rule ∙ ap (λ (o : Option Rule). length (rule_or o).scope) free in
      ext_get_or 0 y.slots x.slots st.revised.strikes.assigned.len
      (λ j lj. ⊎_elim (λ e. e) (λ t. let l = t.2.1 in absurd (omega arith)) (st.revised.strikes.assigned.each j))

  step_sound : Sound B (cause_of x.slots) (killer_of x.killers) → Sound B (cause_of y.slots) (killer_of y.killers)
  step_sound sound = go (get_or B.rules p none) refl (kill_sound B shape (cause_of x.slots) (killer_of x.killers) (killer_of y.killers) step_kills sound)
    where
      go : (o : Option Rule) → get_or B.rules p none ≡ o → Sound B (cause_of x.slots) (killer_of y.killers) → Sound B (cause_of y.slots) (killer_of y.killers)
      go none e s = rw (none_struck e) s
      go (some u) e s = strike_sound B shape p u e (killer_of y.killers) (cause_of x.slots) (cause_of y.slots) (step_strikes u e) s

-- A STEP KEEPS IT
pub step_working : (B : Board) → Shape B → (R : RuleBytes) {p r : ℕ} {x y : Progress} → Stepped R p r x y → Working B R x → Working B R y
step_working B shape R {p} {r} {x} {y} st work =
    record {
      sizes = step_sizes R st R.rows work.sizes;
      rules = work.rules;
      sound = step_sound B shape R st work.rules work.off work.sound;
      off = λ c s lc ls n.
          let e = work.off c s lc ls n in
          ⊎_elim (λ h. h ∙ e) (λ t. let o = t.0 in absurd (omega (arith, (off_limits B c s).1))) (st.revised.strikes.assigned.each (32 * c + s));
      spare = λ q w lq lw le. ⊎_elim (λ h. h ∙ work.spare q w lq lw le) (λ k. absurd (past q w lw le k)) (step_killers R st (64 * q + w));
      calm = calm_step R st (distinct B shape R work.rules p st.rule) work.calm;
    }
  where
    -- a row that was killed is one of the rule's
    past : (q w : ℕ) → w < 64 → length (rule_at B q).rows ≤ w → {a b : ℕ} → Kill R x.slots p (64 * q + w) a b → ⊥
    past q w lw le k =
        let inside = k.inside in
        let place = k.place in
        let own : q ≡ p = omega arith in
        omega (arith, rw own at le, work.rules.lengths p st.rule)

-- and so do all steps
pub steps_working : (B : Board) → Shape B → (R : RuleBytes) {x z : Progress} → Working B R x → Steps R x z → Working B R z
steps_working B shape R = along R (Working B R) (λ p r y z st work. step_working B shape R st work)
