-- A RETRACTION LEADS FROM A STORED BOARD TO A STORED BOARD without the rule, with S, R and T as they have to be. Assumes nothing.
use Rattle.std.specs.Prelude.{◌≡◌, refl, List, ◌≢◌, Bool, false, ℕ, ◌+◌, ◌*◌, ◌/◌, ◌%◌, ◌<◌, ◌≤◌, length, get_or, set, replicate}
use Rattle.std.proofs.Common.{sym, subst, ◌∙◌, inl, inr, ⊎_elim, arith, get_or-set_other}
use Rattle.std.proofs.Math.Option.{none}
use Rattle.std.proofs.lemmas.List.{get_or-replicate}
use Rattle.layout.specs.declared.value.Heads.{Heads}
use Rattle.layout.specs.Places.{call_of, cause_of, killer_of}
use Rattle.layout.specs.Sizes.{killers_length, slots_length}
use Rattle.tables.specs.Laws.Facts.{eq_or_ne}
use Rattle.tables.specs.Laws.Lost.{only_none}
use Rattle.model.specs.Board.{Rule, Board, OnBoard, InForce, InScope, Shape}
use Rattle.model.specs.Records.{Struck, Sound, Recorded}
use Rattle.model.specs.Changes.{Weaker, Seeds, CauseIs}
use Rattle.model.specs.Ledger.{with_rule}
use Rattle.model.specs.Representation.{rule_at, Headed, off_byte, Stored}
use Rattle.model.proofs.Laws.Tests.{none_some, count_none}
use Rattle.model.proofs.Laws.Theory.{active_below, struck_caused}
use Rattle.model.proofs.Laws.Shapes.{shape_with}
use Rattle.model.proofs.Laws.Fresh.{empty_held}
use Rattle.model.proofs.Laws.Touched.{smallest_none}
use Rattle.model.proofs.Laws.Change.{on_range, byte_on, retracted_from, retract_weaker, retract_seeds}
use Rattle.filter_propagate.specs.Rules.{RuleBytes, rules_in, reached}
use Rattle.filter_support.specs.Strikes.{is_open, is_struck}
use Rattle.filter_propagate.specs.Stable.{StableBytes}
use Rattle.filter_propagate.specs.Queue.{IsFlagged}
use Rattle.filter_propagate.specs.Laws.Stable.{stable_keep}
use Rattle.filter_support.specs.Laws.Strikes.{open_not_struck}
use Rattle.filter_propagate.specs.Laws.Kept.{steps_slots, propagated_lost}
use Rattle.filter_relax.specs.Relaxed.{Relaxed}
use Rattle.filter_relax.proofs.Laws.Relaxed.{stays_stable}
use Rattle.filter_meaning.specs.Rules.{RulesOf}
use Rattle.filter_meaning.specs.Working.{Working}
use Rattle.filter_meaning.specs.Relaxing.{visited_test}
use Rattle.filter_meaning.specs.Counts.{Reopening}
use Rattle.filter_meaning.specs.Laws.Counts.{none_reopened, reopened_count, visited_count}
use Rattle.filter_meaning.specs.Laws.Rules.{stored_rules, read_as}
use Rattle.filter_meaning.specs.Laws.Relaxing.{visited_smallest, visited_were_struck, relaxed_off, relaxed_spare, relaxed_sound, quiet_sound, open_not_struck_after, none_struck_between}
use Rattle.filter_meaning.specs.Laws.Settled.{settled, at_rest, propagated_stored}
use Rattle.filter_post.specs.Rules.{with_rule_heads}
use Rattle.filter_post.specs.Laws.Rules.{rule_there, written_rules, written_headed, written_stable, empty_stable}
use Rattle.filter_post.specs.Laws.Write.{swept_apart}
use Rattle.filter_retract.specs.Done.{RuleCleared, CausedBy, Quiet, Reworked, RetractDone}
use Rattle.filter_retract.specs.Stored.{RetractStored}

-- a slot with the cause p is on a call of rule p, so it is in the seed
caused_seeded : (B : Board) → Shape B → (R : RuleBytes) → RulesOf B R → (killers slots : List ℕ) → Recorded B (cause_of slots) (killer_of killers) → (p : ℕ) → p < 64 → (c s : ℕ)
    → Struck B (cause_of slots) c s → CauseIs (cause_of slots) p c s → CausedBy p R slots (32 * c + s)
caused_seeded B shape R known killers slots rec p lp c s h e =
    let cause = struck_caused B (cause_of slots) (killer_of killers) rec c s h in go cause.rule cause.force cause.call
  where
    go : (r : Rule) → InForce B (cause_of slots c s) r → InScope B r c → CausedBy p R slots (32 * c + s)
    go r f o =
        let b = read_as B shape R known p r (subst (λ (q : ℕ). InForce B q r) e f) in
        let lk = active_below B r o.column o.active in
        let here : call_of R.scope p o.column ≡ c = b.call o.column lk ∙ o.call in
        (o.column, omega (arith, b.columns), (s, (on_range B shape c s h.0).2, record { is = rw here refl; cause = e }))

module _ (B : Board) (shape : Shape B) (p : ℕ) (lp : p < 64) (heads : Heads) (rows killers slots : List ℕ) (stored : Stored B heads rows killers slots) where
  known : RulesOf B (rules_in rows heads)
  known = stored_rules B heads rows stored.headed stored.row_bytes_lem

  shape' : Shape (with_rule B p none)
  shape' = shape_with B p none shape lp (λ r e. none_some e)

  -- the killers of the other rules stay where rule p is cleared
  others : {R' : RuleBytes} {a b : List ℕ} → RuleCleared p (rules_in rows heads) R' a b → (q w : ℕ) → q ≢ p → w < 64 → killer_of b q w ≡ killer_of a q w
  others c q w n lw = swept_apart 64 p q w c.killers_empty n lw

  stable : (q : ℕ) → q < 64 → StableBytes (rules_in rows heads) killers slots q
  stable q lq = (at_rest B shape heads rows killers slots stored (replicate 64 false)).calm q lq (get_or-replicate 64 q false false lq)

  weaker : Weaker B (with_rule B p none)
  weaker = retract_weaker B shape p lp

  seeds : Seeds B (with_rule B p none) (cause_of slots) (CauseIs (cause_of slots) p)
  seeds = retract_seeds B p (cause_of slots)

  -- where rule p is cleared the killers of the rules that are left stay
  left_killers : {R' : RuleBytes} {a b : List ℕ} → RuleCleared p (rules_in rows heads) R' a b → (q w : ℕ) (r : Rule) → InForce (with_rule B p none) q r → w < 64
      → killer_of b q w ≡ killer_of a q w
  left_killers c q w r f lw = others c q w (retracted_from B shape p lp q r f).0 lw

  -- AT WORK WITHOUT THE RULE: the records are sound without it, the rule was cleared, and the rules that are not pending are stable as they were
  module _ (R' : RuleBytes) (revived emptied opened : List ℕ) (pending : List Bool) (cleared : RuleCleared p (rules_in rows heads) R' revived emptied)
      (sound : Sound (with_rule B p none) (cause_of opened) (killer_of emptied)) (size : length opened ≡ slots_length) (revived-size : length revived ≡ killers_length)
      (off : (c s : ℕ) → c < 32 → s < 32 → (OnBoard B c s → ⊥) → cause_of opened c s ≡ off_byte B c s)
      (past : (q w : ℕ) → q < 64 → w < 64 → q ≢ p → length (rule_at B q).rows ≤ w → killer_of revived q w ≡ 255)
      (still : (q : ℕ) → q < 64 → q ≢ p → get_or pending q false ≡ false → StableBytes (rules_in rows heads) revived opened q) where
    working : Working (with_rule B p none) R' (reached emptied opened pending)
    working =
        record {
          sizes = record {
            rows_size = cleared.written.rows_size ∙ stored.row_bytes_lem.rows_size;
            killers_size = cleared.killers_empty.len ∙ revived-size;
            slots_size = size;
          };
          rules = known';
          sound = sound;
          off = off;
          spare = λ q w lq lw le. ⊎_elim (λ (e : q ≡ p). rw e (cleared.killers_empty.inside w lw)) (λ (n : q ≢ p). spare q w lq lw n le) (eq_or_ne q p);
          calm = λ q lq e. ⊎_elim (λ (h : q ≡ p). rw h gone) (λ (n : q ≢ p). calm q lq n e) (eq_or_ne q p);
        }
      where
        known' : RulesOf (with_rule B p none) R'
        known' = written_rules B shape p lp none (rules_in rows heads) R' empty_held cleared.written known

        spare : (q w : ℕ) → q < 64 → w < 64 → q ≢ p → length (rule_at (with_rule B p none) q).rows ≤ w → killer_of emptied q w ≡ 255
        spare q w lq lw n le = others cleared q w n lw ∙ past q w lq lw n (rw (rule_there B shape p lp none q n) at le)

        gone : StableBytes R' emptied opened p
        gone = empty_stable R' p emptied opened cleared.written.arity

        calm : (q : ℕ) → q < 64 → q ≢ p → get_or pending q false ≡ false → StableBytes R' emptied opened q
        calm q lq n e =
            written_stable cleared.written emptied opened q n
            (stable_keep (rules_in rows heads) q revived emptied opened opened (λ k s lk ls. refl) (λ w lw. others cleared q w n (omega arith)) (still q lq n e))

    headed' : Headed (with_rule B p none) (with_rule_heads heads R')
    headed' =
        written_headed B none heads rows stored.headed cleared.written working.rules

  -- WHERE THE RULE STRUCK NOTHING, nothing reopens
  quiet_stored : {R' : RuleBytes} {killers' slots' : List ℕ} {reopened touched : ℕ} → Quiet p (rules_in rows heads) R' killers killers' slots slots' reopened touched
      → RetractStored B p heads R' killers killers' slots slots' reopened touched
  quiet_stored {R'} {killers'} {slots'} {reopened} {touched} q =
      record {
        stored = after;
        none_struck = none_struck_between B (with_rule B p none) weaker stored after;
        reopened_is = none_reopened slots slots' stored.slots_size after.slots_size (rw q.slots_same (only_none 0 is_open is_struck open_not_struck slots)) ∙ sym q.none_reopened;
        touched_is = record {
          set = λ c s. false;
          smallest = smallest_none B (CauseIs (cause_of slots) p) (cause_of slots) (killer_of killers) unseeded;
          size = q.none_touched ∙ sym (count_none slots_length (λ i. false) (λ i l. refl));
        };
      }
    where
      unseeded : (c s : ℕ) → Struck B (cause_of slots) c s → CauseIs (cause_of slots) p c s → ⊥
      unseeded c s h e = q.none (32 * c + s) (caused_seeded B shape (rules_in rows heads) known killers slots stored.recorded p lp c s h e)

      sound : Sound (with_rule B p none) (cause_of slots) (killer_of killers')
      sound =
          quiet_sound B (with_rule B p none) weaker shape (CauseIs (cause_of slots) p) (cause_of slots) (cause_of slots) (killer_of killers) (killer_of killers') seeds
          unseeded (λ c s on. refl) (left_killers q.cleared) stored.recorded.sound

      after : Stored (with_rule B p none) (with_rule_heads heads R') R'.rows killers' slots'
      after =
          rw q.slots_same
          (settled (with_rule B p none) shape' (with_rule_heads heads R') R'.rows (reached killers' slots (replicate 64 false))
          (headed' R' killers killers' slots (replicate 64 false) q.cleared sound stored.slots_size stored.killers_size stored.off
          (λ u w lu lw n le. stored.spare u w lu lw le) (λ u lu n e. stable u lu))
          (working R' killers killers' slots (replicate 64 false) q.cleared sound stored.slots_size stored.killers_size stored.off
          (λ u w lu lw n le. stored.spare u w lu lw le) (λ u lu n e. stable u lu))
          (λ u lu. get_or-replicate 64 u false false lu))

  -- WHERE IT STRUCK SOMETHING, the touched slots reopen, less those that are struck again
  reworked_stored : {R' : RuleBytes} {killers' slots' : List ℕ} {reopened touched : ℕ} → Reworked p (rules_in rows heads) R' killers killers' slots slots' reopened touched
      → RetractStored B p heads R' killers killers' slots slots' reopened touched
  reworked_stored {R'} {killers'} {slots'} {reopened} {touched} d =
      record {
        stored = after;
        none_struck = none_struck_between B (with_rule B p none) weaker stored after;
        reopened_is = reopened_count slots d.opened slots' d.visited d.again touched stored.slots_size reopening (propagated_lost R' d.propagated) x.total
            ∙ sym d.difference;
        touched_is = record {
          set = visited_test d.visited;
          smallest = visited_smallest B shape (rules_in rows heads) known killers slots stored.recorded (CausedBy p (rules_in rows heads) slots) (CauseIs (cause_of slots) p) struck seeded x
              stored.off begins;
          size = x.total ∙ visited_count d.visited x.visited_size;
        };
      }
    where
      x : Relaxed (rules_in rows heads) (CausedBy p (rules_in rows heads) slots) touched killers d.revived slots d.opened d.visited d.pending
      x = d.relaxed

      struck : (j : ℕ) → CausedBy p (rules_in rows heads) slots j → get_or slots j 0 < 64
      struck j z = let e = z.2.2.cause in omega arith

      seeded : (c s : ℕ) → Struck B (cause_of slots) c s → CauseIs (cause_of slots) p c s → CausedBy p (rules_in rows heads) slots (32 * c + s)
      seeded = caused_seeded B shape (rules_in rows heads) known killers slots stored.recorded p lp

      -- and what the seed has over the bytes is a struck slot with the cause p
      begins : (j : ℕ) → CausedBy p (rules_in rows heads) slots j → Struck B (cause_of slots) (j / 32) (j % 32) × CauseIs (cause_of slots) p (j / 32) (j % 32)
      begins j z =
          let at : 32 * (j / 32) + j % 32 ≡ j = omega arith in
          let call : j / 32 < 32 = omega (arith, z.2.1, z.2.2.is) in
          let cause : cause_of slots (j / 32) (j % 32) ≡ p = rw at z.2.2.cause in
          let lt : cause_of slots (j / 32) (j % 32) < 64 = omega (arith, cause, lp) in
          ((byte_on B (cause_of slots) stored.off (j / 32) (j % 32) call (omega arith) (inr lt), lt), cause)

      was : (j : ℕ) → IsFlagged d.visited j → get_or slots j 0 < 64
      was =
          visited_were_struck B shape (rules_in rows heads) known killers slots stored.recorded (CausedBy p (rules_in rows heads) slots) (CauseIs (cause_of slots) p) struck seeded x

      sound : Sound (with_rule B p none) (cause_of d.opened) (killer_of d.emptied)
      sound =
          relaxed_sound B shape (rules_in rows heads) known killers slots stored.recorded (CausedBy p (rules_in rows heads) slots) (CauseIs (cause_of slots) p) struck seeded x
          (with_rule B p none) weaker d.opened d.emptied (λ c s on. refl) (left_killers d.cleared) seeds

      off : (c s : ℕ) → c < 32 → s < 32 → (OnBoard B c s → ⊥) → cause_of d.opened c s ≡ off_byte B c s
      off =
          relaxed_off B shape (rules_in rows heads) known killers slots stored.recorded (CausedBy p (rules_in rows heads) slots) (CauseIs (cause_of slots) p) struck seeded x
          stored.off

      past : (q w : ℕ) → q < 64 → w < 64 → q ≢ p → length (rule_at B q).rows ≤ w → killer_of d.revived q w ≡ 255
      past q w lq lw n =
          relaxed_spare B shape (rules_in rows heads) known killers slots stored.recorded (CausedBy p (rules_in rows heads) slots) (CauseIs (cause_of slots) p) struck seeded x
          stored.spare q w lq lw

      still : (q : ℕ) → q < 64 → q ≢ p → get_or (set d.pending p false) q false ≡ false → StableBytes (rules_in rows heads) d.revived d.opened q
      still q lq n e = stays_stable x q lq (sym (get_or-set_other d.pending p q false false n) ∙ e) (stable q lq)

      after : Stored (with_rule B p none) (with_rule_heads heads R') R'.rows killers' slots'
      after =
          propagated_stored (with_rule B p none) shape' (with_rule_heads heads R') R'.rows (reached d.emptied d.opened (set d.pending p false)) (reached killers' slots' d.flags)
          (headed' R' d.revived d.emptied d.opened (set d.pending p false) d.cleared sound
          (x.slots_size ∙ stored.slots_size) (x.killers_size ∙ stored.killers_size) off past still)
          (working R' d.revived d.emptied d.opened (set d.pending p false) d.cleared sound
          (x.slots_size ∙ stored.slots_size) (x.killers_size ∙ stored.killers_size) off past still)
          d.propagated

      reopening : Reopening slots d.opened slots' d.visited
      reopening =
          record {
            left_size = x.slots_size;
            visited_size = x.visited_size ∙ sym stored.slots_size;
            was_struck = was;
            are_open = x.slot_opened;
            kept = λ j n. inl (x.slot_kept j n);
            again = steps_slots R' d.propagated.steps;
            none_struck = open_not_struck_after B (with_rule B p none) weaker stored after;
          }

  -- A RETRACTION, either way
  pub retract_stored : {R' : RuleBytes} {killers' slots' : List ℕ} {reopened touched : ℕ} → RetractDone p (rules_in rows heads) R' killers killers' slots slots' reopened touched
      → RetractStored B p heads R' killers killers' slots slots' reopened touched
  retract_stored (inl q) = quiet_stored q
  retract_stored (inr d) = reworked_stored d
