-- A CANCELLATION LEADS FROM A STORED BOARD TO A STORED BOARD with the call cancelled, with S, R and T as they have to be. It is the law of relaxation again, from the
-- call's own struck slots. Assumes nothing.
use Rattle.std.specs.Prelude.{◌≡◌, refl, Bool, false, not, ◌&&◌, List, ◌⊎◌, ◌≢◌, ℕ, ◌+◌, ◌*◌, ◌/◌, ◌%◌, ◌<◌, ◌≤◌, length, get_or, replicate, T, eqb, ltb}
use Rattle.std.proofs.Common.{sym, ◌∙◌, inl, inr, ⊎_elim, arith, ltb→lt, eqb→eq, T_not, lt-ltb}
use Rattle.std.proofs.lemmas.List.{get_or-replicate}
use Rattle.std.proofs.Math.Dec.{not_T}
use Rattle.layout.specs.declared.value.Heads.{Heads}
use Rattle.layout.specs.Places.{call_of, row_cell, slot_place, cause_of, killer_of, cancelled_byte}
use Rattle.layout.specs.Sizes.{slots_length}
use Rattle.tables.specs.Laws.Facts.{eq_or_ne, lt_or_le}
use Rattle.model.specs.Board.{Board, OnBoard, Shape}
use Rattle.model.specs.Records.{Struck, Sound}
use Rattle.model.specs.Changes.{Weaker, Seeds, OwnSlot}
use Rattle.model.specs.Ledger.{cancel_call}
use Rattle.model.specs.Representation.{rule_at, Headed, off_byte, Stored}
use Rattle.model.proofs.Laws.Tests.{and→, →and, and_false, →T, T→, →eqb, same_test, count_none}
use Rattle.model.proofs.Laws.Reports.{slots_same}
use Rattle.model.proofs.Laws.Touched.{smallest_none}
use Rattle.model.proofs.Laws.Theory.{on_live, on_count, live_not}
use Rattle.model.proofs.Laws.Shapes.{shape_cancelled}
use Rattle.model.proofs.Laws.Change.{on_range, byte_on, off_limits, on_weaker, cancelled_itself, cancel_live, cancel_weaker, cancel_seeds}
use Rattle.filter_propagate.specs.Rules.{RuleBytes, rules_in, reached}
use Rattle.filter_support.specs.Strikes.{is_open, is_struck}
use Rattle.filter_propagate.specs.Stable.{StableBytes}
use Rattle.filter_propagate.specs.Queue.{IsFlagged}
use Rattle.filter_propagate.specs.Laws.Kept.{steps_slots, propagated_lost}
use Rattle.filter_relax.specs.Relaxed.{Relaxed}
use Rattle.filter_relax.proofs.Laws.Relaxed.{stays_stable}
use Rattle.filter_meaning.specs.Rules.{RulesOf}
use Rattle.filter_meaning.specs.Working.{Working}
use Rattle.filter_meaning.specs.Relaxing.{visited_test}
use Rattle.filter_meaning.specs.Counts.{Neither, Reopening}
use Rattle.filter_meaning.specs.Laws.Counts.{none_counted, reopened_count, visited_count}
use Rattle.filter_meaning.specs.Laws.Rules.{stored_rules}
use Rattle.filter_meaning.specs.Laws.Relaxing.{visited_smallest, visited_were_struck, relaxed_off, relaxed_spare, relaxed_sound, quiet_sound, open_not_struck_after, none_struck_between}
use Rattle.filter_meaning.specs.Laws.Settled.{settled, at_rest, propagated_stored}
use Rattle.filter_cancel.specs.Done.{OwnStruck, Withdrawn, CancelQuiet, CancelReworked, CancelDone}
use Rattle.filter_cancel.specs.Stored.{CancelStored}

-- A WITHDRAWAL leaves the slots of other calls, and each byte is as it was or a cancelled call's
module _ (c n : ℕ) {old new : List ℕ} (few : n ≤ 32) (w : Withdrawn c n old new) where
  withdrawn_other : (j : ℕ) → j / 32 ≢ c → get_or new j 0 ≡ get_or old j 0
  withdrawn_other j apart = ⊎_elim (w.below j) (λ (le : 32 * c ≤ j). ⊎_elim (λ (l : j < 32 * c + 32). absurd (apart (omega arith))) (λ (h : 32 * c + 32 ≤ j). w.above j (omega arith)) (lt_or_le j (32 * c + 32)))
      (lt_or_le j (32 * c))

  withdrawn_each : (j : ℕ) → (get_or new j 0 ≡ get_or old j 0) ⊎ (get_or new j 0 ≡ cancelled_byte)
  withdrawn_each j =
      ⊎_elim (λ (l : j < 32 * c). inl (w.below j l))
      (λ (le : 32 * c ≤ j).
      ⊎_elim (λ (l : j < 32 * c + n). inr (written l le)) (λ (h : 32 * c + n ≤ j). inl (w.above j h)) (lt_or_le j (32 * c + n)))
      (lt_or_le j (32 * c))
    where
      written : j < 32 * c + n → 32 * c ≤ j → get_or new j 0 ≡ cancelled_byte
      written l le =
          let i = j % 32 in
          let at : 32 * c + j % 32 ≡ j = omega arith in
          rw at at (w.inside (j % 32) (omega arith))

-- a rule that is stable stays so where bytes become those of a cancelled call: they are neither struck nor open
stable_withdrawn : (R : RuleBytes) (killers old new : List ℕ) (q : ℕ) → ((j : ℕ) → (get_or new j 0 ≡ get_or old j 0) ⊎ (get_or new j 0 ≡ cancelled_byte)) → StableBytes R killers old q
    → StableBytes R killers new q
stable_withdrawn R killers old new q each st =
    record {
      alive = λ w lw e k lk h. go h (st.alive w lw e k lk) (each (row_cell R.rows R.scope q w k));
      held = λ k s lk ls e. back e (st.held k s lk ls) (each (slot_place (call_of R.scope q k) s));
    }
  where
    go : {x y : ℕ} → y < 64 → (x < 64 → ⊥) → (y ≡ x) ⊎ (y ≡ cancelled_byte) → ⊥
    go h n (inl same) = n (rw same at h)
    go h n (inr gone) = omega arith

    back : {A : Type 0} {x y : ℕ} → y ≡ 255 → (x ≡ 255 → A) → (y ≡ x) ⊎ (y ≡ cancelled_byte) → A
    back e f (inl same) = f (sym same ∙ e)
    back e f (inr gone) = absurd (omega arith)

module _ (B : Board) (shape : Shape B) (c : ℕ) (there : c < length B.counts) (heads : Heads) (rows killers slots : List ℕ) (stored : Stored B heads rows killers slots)
    (n : ℕ) (n-is : n ≡ get_or B.counts c 0) where
  few : n ≤ 32
  few = omega (arith, (shape.counts c there).1)

  known : RulesOf B (rules_in rows heads)
  known = stored_rules B heads rows stored.headed stored.row_bytes_lem

  known' : RulesOf (cancel_call B c) (rules_in rows heads)
  known' = record { arity = known.arity; scope = known.scope; lengths = known.lengths; bytes = known.bytes }

  headed' : Headed (cancel_call B c) heads
  headed' =
      let h = stored.headed in
      record {
        counts_size = h.counts_size;
        arity_size = h.arity_size;
        scope_size = h.scope_size;
        lengths_size = h.lengths_size;
        counts = h.counts;
        arity = h.arity;
        scope = h.scope;
        lengths = h.lengths;
      }

  shape' : Shape (cancel_call B c)
  shape' = shape_cancelled B shape c there

  weaker : Weaker B (cancel_call B c)
  weaker = cancel_weaker B c

  seeds : Seeds B (cancel_call B c) (cause_of slots) (OwnSlot c)
  seeds = cancel_seeds B c (cause_of slots)

  stable : (q : ℕ) → q < 64 → StableBytes (rules_in rows heads) killers slots q
  stable q lq = (at_rest B shape heads rows killers slots stored (replicate 64 false)).calm q lq (get_or-replicate 64 q false false lq)

  -- a struck slot of the call is in the seed
  seeded : (d s : ℕ) → Struck B (cause_of slots) d s → OwnSlot c d s → OwnStruck slots c (32 * d + s)
  seeded d s h e = (s, (on_range B shape d s h.0).2, rw e refl, h.1)

  struck : (j : ℕ) → OwnStruck slots c j → get_or slots j 0 < 64
  struck j z = z.3

  -- and what the seed has over the bytes is a struck slot of the call
  begins : (j : ℕ) → OwnStruck slots c j → Struck B (cause_of slots) (j / 32) (j % 32) × OwnSlot c (j / 32) (j % 32)
  begins j z =
      let at : 32 * (j / 32) + j % 32 ≡ j = omega arith in
      let own : j / 32 ≡ c = omega (arith, z.1, z.2) in
      let lt : cause_of slots (j / 32) (j % 32) < 64 = rw at z.3 in
      ((byte_on B (cause_of slots) stored.off (j / 32) (j % 32) (omega (arith, own, there, shape.calls)) (omega arith) (inr lt), lt), own)

  -- no slot of the call is on the board any more
  own_off : (s : ℕ) → OnBoard (cancel_call B c) c s → ⊥
  own_off s on = live_not (cancel_call B c) c (on_live (cancel_call B c) c s on) (cancelled_itself B c)

  -- AFTER THE WITHDRAWAL of bytes that are right off the board so far
  module _ (opened left : List ℕ) (w : Withdrawn c n opened left) (opened_off : (d s : ℕ) → d < 32 → s < 32 → (OnBoard B d s → ⊥) → cause_of opened d s ≡ off_byte B d s) where
    left_on : (d s : ℕ) → OnBoard (cancel_call B c) d s → cause_of left d s ≡ cause_of opened d s
    left_on d s on =
        let ls = (on_range (cancel_call B c) shape' d s on).2 in
        ⊎_elim (λ (e : d ≡ c). absurd (own_off s (rw e at on))) (λ (ne : d ≢ c). withdrawn_other c n few w (32 * d + s) (λ at. ne (omega arith))) (eq_or_ne d c)

    left_off : (d s : ℕ) → d < 32 → s < 32 → (OnBoard (cancel_call B c) d s → ⊥) → cause_of left d s ≡ off_byte (cancel_call B c) d s
    left_off d s ld ls out = ⊎_elim (λ (e : d ≡ c). rw e (own s ls)) other (eq_or_ne d c)
      where
        own : (s : ℕ) → s < 32 → cause_of left c s ≡ off_byte B c s
        own s ls =
            ⊎_elim (λ (l : s < n). w.inside s l ∙ rw (lt-ltb s (get_or B.counts c 0) (omega arith)))
            (λ (le : n ≤ s). w.above (32 * c + s) (omega arith) ∙ opened_off c s (omega (arith, there, shape.calls)) ls (λ on. past s le (on_count B c s on)))
            (lt_or_le s n)
          where
            past : (s : ℕ) → n ≤ s → s < get_or B.counts c 0 → ⊥
            past s le l = omega arith

        other : d ≢ c → cause_of left d s ≡ off_byte B d s
        other ne =
            withdrawn_other c n few w (32 * d + s) (λ at. ne (omega arith))
            ∙ opened_off d s ld ls (λ on. out (on_weaker B (cancel_call B c) weaker d s (cancel_live B c d (on_live B d s on) ne) on))

  -- AT WORK WITH THE CALL CANCELLED: the records are sound on that board, and the rules that are not pending are stable as they were
  module _ (revived opened left : List ℕ) (pending : List Bool) (w : Withdrawn c n opened left) (sound : Sound (cancel_call B c) (cause_of left) (killer_of revived))
      (size : length opened ≡ slots_length) (revived-size : length revived ≡ length killers)
      (opened_off : (d s : ℕ) → d < 32 → s < 32 → (OnBoard B d s → ⊥) → cause_of opened d s ≡ off_byte B d s)
      (spare : (q v : ℕ) → q < 64 → v < 64 → length (rule_at B q).rows ≤ v → killer_of revived q v ≡ 255)
      (still : (q : ℕ) → q < 64 → get_or pending q false ≡ false → StableBytes (rules_in rows heads) revived opened q) where
    working : Working (cancel_call B c) (rules_in rows heads) (reached revived left pending)
    working =
        record {
          sizes = record { rows_size = stored.row_bytes_lem.rows_size; killers_size = revived-size ∙ stored.killers_size; slots_size = w.len ∙ size };
          rules = known';
          sound = sound;
          off = left_off opened left w opened_off;
          spare = spare;
          calm = λ q lq e. stable_withdrawn (rules_in rows heads) revived opened left q (withdrawn_each c n few w) (still q lq e);
        }

  -- WHERE NO SLOT OF THE CALL IS STRUCK, nothing reopens
  quiet_stored : {killers' slots' : List ℕ} {reopened touched : ℕ} → CancelQuiet c n killers killers' slots slots' reopened touched
      → CancelStored B c heads rows killers killers' slots slots' reopened touched
  quiet_stored {killers'} {slots'} {reopened} {touched} q =
      record {
        stored = after;
        none_struck = none_struck_between B (cancel_call B c) weaker stored after;
        reopened_is = none_counted is_struck is_open slots slots'
            (λ j h o. stays_struck j (ltb→lt (get_or slots j 0) 64 h) (eqb→eq (get_or slots' j 0) 255 o) (withdrawn_each c n few q.withdrawn j))
            ∙ sym q.none_reopened;
        touched_is = record {
          set = λ d s. false;
          smallest = smallest_none B (OwnSlot c) (cause_of slots) (killer_of killers) unseeded;
          size = q.none_touched ∙ sym (count_none slots_length (λ i. not (eqb (i / 32) c) && false) (λ i l. and_false (not (eqb (i / 32) c))));
        };
      }
    where
      unseeded : (d s : ℕ) → Struck B (cause_of slots) d s → OwnSlot c d s → ⊥
      unseeded d s h e = q.none (32 * d + s) (seeded d s h e)

      stays_struck : (j : ℕ) → get_or slots j 0 < 64 → get_or slots' j 0 ≡ 255 → (get_or slots' j 0 ≡ get_or slots j 0) ⊎ (get_or slots' j 0 ≡ cancelled_byte) → ⊥
      stays_struck j h o (inl same) = omega arith
      stays_struck j h o (inr gone) = omega arith

      sound : Sound (cancel_call B c) (cause_of slots') (killer_of killers)
      sound =
          quiet_sound B (cancel_call B c) weaker shape (OwnSlot c) (cause_of slots) (cause_of slots') (killer_of killers) (killer_of killers) seeds
          unseeded (left_on slots slots' q.withdrawn stored.off) (λ p v r f lv. refl) stored.recorded.sound

      after : Stored (cancel_call B c) heads rows killers' slots'
      after =
          rw q.killers_same
          (settled (cancel_call B c) shape' heads rows (reached killers slots' (replicate 64 false)) headed'
          (working killers slots slots' (replicate 64 false) q.withdrawn sound stored.slots_size refl stored.off stored.spare (λ p lp e. stable p lp))
          (λ p lp. get_or-replicate 64 p false false lp))

  -- WHERE ONE IS, the touched slots of the other calls reopen, less those that are struck again
  reworked_stored : {killers' slots' : List ℕ} {reopened touched : ℕ} → CancelReworked c n (rules_in rows heads) killers killers' slots slots' reopened touched
      → CancelStored B c heads rows killers killers' slots slots' reopened touched
  reworked_stored {killers'} {slots'} {reopened} {touched} d =
      record {
        stored = after;
        none_struck = none_struck_between B (cancel_call B c) weaker stored after;
        reopened_is = reopened_count slots d.left slots' d.others d.again touched stored.slots_size reopening (propagated_lost (rules_in rows heads) d.propagated) d.total
            ∙ sym d.difference;
        touched_is = record {
          set = visited_test d.visited;
          smallest = visited_smallest B shape (rules_in rows heads) known killers slots stored.recorded (OwnStruck slots c) (OwnSlot c) struck seeded x stored.off begins;
          size = d.total ∙ visited_count d.others (d.beside.size ∙ x.visited_size)
              ∙ slots_same (visited_test d.others) (λ e s. not (eqb e c) && visited_test d.visited e s) (λ e s le ls. counted e s ls);
        };
      }
    where
      x : Relaxed (rules_in rows heads) (OwnStruck slots c) d.all killers d.revived slots d.opened d.visited d.pending
      x = d.relaxed

      was : (j : ℕ) → IsFlagged d.visited j → get_or slots j 0 < 64
      was = visited_were_struck B shape (rules_in rows heads) known killers slots stored.recorded (OwnStruck slots c) (OwnSlot c) struck seeded x

      opened_off : (e s : ℕ) → e < 32 → s < 32 → (OnBoard B e s → ⊥) → cause_of d.opened e s ≡ off_byte B e s
      opened_off = relaxed_off B shape (rules_in rows heads) known killers slots stored.recorded (OwnStruck slots c) (OwnSlot c) struck seeded x stored.off

      sound : Sound (cancel_call B c) (cause_of d.left) (killer_of d.revived)
      sound =
          relaxed_sound B shape (rules_in rows heads) known killers slots stored.recorded (OwnStruck slots c) (OwnSlot c) struck seeded x
          (cancel_call B c) weaker d.left d.revived (left_on d.opened d.left d.withdrawn opened_off) (λ q v r f lv. refl) seeds

      spare : (q v : ℕ) → q < 64 → v < 64 → length (rule_at B q).rows ≤ v → killer_of d.revived q v ≡ 255
      spare = relaxed_spare B shape (rules_in rows heads) known killers slots stored.recorded (OwnStruck slots c) (OwnSlot c) struck seeded x stored.spare

      after : Stored (cancel_call B c) heads rows killers' slots'
      after =
          propagated_stored (cancel_call B c) shape' heads rows (reached d.revived d.left d.pending) (reached killers' slots' d.flags) headed'
          (working d.revived d.opened d.left d.pending d.withdrawn sound (x.slots_size ∙ stored.slots_size) x.killers_size opened_off spare
          (λ q lq e. stays_stable x q lq e (stable q lq)))
          d.propagated

      -- what is counted are the visited slots of other calls
      counted : (e s : ℕ) → s < 32 → visited_test d.others e s ≡ (not (eqb e c) && visited_test d.visited e s)
      counted e s ls = same_test (visited_test d.others e s) (not (eqb e c) && visited_test d.visited e s) to from
        where
          call : (32 * e + s) / 32 ≡ e
          call = omega arith

          to : T (visited_test d.others e s) → T (not (eqb e c) && visited_test d.visited e s)
          to t =
              let b = and→ (ltb s 32) (get_or d.others (32 * e + s) false) t in
              let o = d.beside.only (32 * e + s) (T→ (get_or d.others (32 * e + s) false) b.1) in
              →and (not (eqb e c)) (visited_test d.visited e s) (not_T (eqb e c) (λ h. o.1 (call ∙ eqb→eq e c h)))
              (→and (ltb s 32) (get_or d.visited (32 * e + s) false) b.0 (→T (get_or d.visited (32 * e + s) false) o.0))

          from : T (not (eqb e c) && visited_test d.visited e s) → T (visited_test d.others e s)
          from t =
              let a = and→ (not (eqb e c)) (visited_test d.visited e s) t in
              let b = and→ (ltb s 32) (get_or d.visited (32 * e + s) false) a.1 in
              let f = d.beside.has (32 * e + s) (T→ (get_or d.visited (32 * e + s) false) b.1) (λ h. T_not (eqb e c) a.0 (→eqb e c (sym call ∙ h))) in
              →and (ltb s 32) (get_or d.others (32 * e + s) false) b.0 (→T (get_or d.others (32 * e + s) false) f)

      -- a slot that is not is as it was, or withdrawn
      kept : (j : ℕ) → (IsFlagged d.others j → ⊥) → (get_or d.left j 0 ≡ get_or slots j 0) ⊎ Neither (get_or d.left j 0)
      kept j out = go (eq_or_ne (j / 32) c)
        where
          go : (j / 32 ≡ c) ⊎ (j / 32 ≢ c) → (get_or d.left j 0 ≡ get_or slots j 0) ⊎ Neither (get_or d.left j 0)
          go (inr ne) = inl (withdrawn_other c n few d.withdrawn j ne ∙ x.slot_kept j (λ f. out (d.beside.has j f ne)))
          go (inl e) =
              let at : 32 * (j / 32) + j % 32 ≡ j = omega arith in
              let off = left_off d.opened d.left d.withdrawn opened_off (j / 32) (j % 32) (omega (arith, there, shape.calls)) (omega arith) (λ on. own_off (j % 32) (rw e at on)) in
              let is : get_or d.left j 0 ≡ off_byte B (j / 32) (j % 32) = rw at at off in
              inr (rw is (off_limits B (j / 32) (j % 32)))

      reopening : Reopening slots d.left slots' d.others
      reopening =
          record {
            left_size = d.withdrawn.len ∙ x.slots_size;
            visited_size = d.beside.size ∙ x.visited_size ∙ sym stored.slots_size;
            was_struck = λ j f. was j (d.beside.only j f).0;
            are_open = λ j f. let o = d.beside.only j f in withdrawn_other c n few d.withdrawn j o.1 ∙ x.slot_opened j o.0;
            kept = kept;
            again = steps_slots (rules_in rows heads) d.propagated.steps;
            none_struck = open_not_struck_after B (cancel_call B c) weaker stored after;
          }

  -- A CANCELLATION, either way
  pub cancel_stored : {killers' slots' : List ℕ} {reopened touched : ℕ} → CancelDone c n (rules_in rows heads) killers killers' slots slots' reopened touched
      → CancelStored B c heads rows killers killers' slots slots' reopened touched
  cancel_stored (inl q) = quiet_stored q
  cancel_stored (inr d) = reworked_stored d
