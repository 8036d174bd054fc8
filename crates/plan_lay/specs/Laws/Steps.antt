-- THE STEPS OF THE SEARCH, as the code takes them: the next open slot, the calls and slots from one on, and what each step comes to under the ceiling. Assumes nothing.
use Rattle.std.specs.Prelude.{◌≡◌, refl, true, false, List, ◌≢◌, ℕ, zero, suc, ◌+◌, ◌-◌, ◌/◌, ◌%◌, ◌^◌, ◌<◌, ◌≤◌, set, eqb, Some, None}
use Rattle.std.proofs.Common.{sym, ap, ◌∙◌, arith, set-set, eq-eqb, ne_eqb, le-leb}
use Rattle.std.proofs.Math.Numerals.{add-one}
use Rattle.std.proofs.Math.ListN.{length-set}
use Rattle.std.specs.Int.Count.{count_trailing_zeros, under}
use Rattle.tables.specs.Masks.{bit_of}
use Rattle.model.specs.Board.{no_slot_given}
use Rattle.tables.specs.Laws.Masks.{bit_zero, bit_above, has_below, lowest}
use Rattle.plan_search.specs.Search.{Result, found, nothing, after, or_next, Task}
use Rattle.plan_search.specs.First.{Clear, Ended, full, stopped, cut}
use Rattle.plan_search.proofs.Laws.Search.{tries_end, tries_closed, tries_open, search_end, search_skips, search_lays, tries_set, clear_away, goes_on?, later, cut_later, cut_over, cut_first, cut_on}
use Rattle.plan_lay.specs.declared.lay.Ending.{Ending}
use Rattle.plan_lay.specs.declared.lay.Ending.TheVariants as ending
use Rattle.plan_lay.specs.Lay.{FirstOpen, NextOpen, calls_from, tries_from, behind_slot, ended_with, StepEnded}

-- THE NEXT OPEN SLOT. Bits below the lowest are 0
below_lowest : (k m i : ℕ) → i < count_trailing_zeros k m → bit_of m i ≡ 0
unfolding bit_of count_trailing_zeros
below_lowest zero m i h = absurd (omega arith)
below_lowest (suc k) m i h = go i (m % 2) refl h (λ j l. below_lowest k (m / 2) j l)
  where
    go : (i d : ℕ) → m % 2 ≡ d → i < under d (count_trailing_zeros k (m / 2)) → ((j : ℕ) → j < count_trailing_zeros k (m / 2) → bit_of (m / 2) j ≡ 0) → bit_of m i ≡ 0
    go zero zero e h ih = e
    go (suc i) zero e h ih = ih i (omega arith)
    go i (suc d) e h ih = absurd (omega arith)

module _ (mask s : ℕ) where
  shifted : (i : ℕ) → s ≤ i → bit_of mask i ≡ bit_of (mask / 2 ^ s) (i - s)
  shifted i h = let e : s + (i - s) ≡ i = omega arith in sym (bit_above mask s (i - s) ∙ ap (bit_of mask) e)

  pub next_none : s ≤ 32 → mask / 2 ^ s ≡ 0 → NextOpen mask s None
  next_none le z =
      record {
        from = le;
        closed = λ i h l. shifted i h ∙ ap (λ (m : ℕ). bit_of m (i - s)) z ∙ bit_zero (i - s);
        here = λ h. absurd (omega arith);
      }

  found_here : mask / 2 ^ s ≢ 0 → mask / 2 ^ s < 2 ^ 64 → bit_of mask (s + count_trailing_zeros 64 (mask / 2 ^ s)) ≡ 1
  found_here n le = let low = lowest 64 (mask / 2 ^ s) le (omega arith) in sym (bit_above mask s (count_trailing_zeros 64 (mask / 2 ^ s))) ∙ low.here

  pub next_found : mask / 2 ^ s ≢ 0 → mask / 2 ^ s < 2 ^ 64 → FirstOpen mask s (s + count_trailing_zeros 64 (mask / 2 ^ s))
  next_found n le =
      record {
        from = omega arith;
        closed = λ i h l. shifted i h ∙ below_lowest 64 (mask / 2 ^ s) (i - s) (omega arith);
        here = λ h. found_here n le;
      }

  -- of a mask of 32 bits it is below 32
  pub next_below : mask < 2 ^ 32 → mask / 2 ^ s ≢ 0 → mask / 2 ^ s ≤ mask → NextOpen mask s (Some (s + count_trailing_zeros 64 (mask / 2 ^ s)))
  next_below small n le =
      let wide : mask / 2 ^ s < 2 ^ 64 = omega arith in
      (has_below 32 mask (s + count_trailing_zeros 64 (mask / 2 ^ s)) small (found_here n wide), next_found n wide)

-- THE CALLS FROM c ON, and the slots from s on
module _ (t : Task) (plan : List ℕ) where
  calls_end : (c : ℕ) → 32 ≤ c → calls_from t c plan ≡ found plan 0
  unfolding calls_from
  calls_end c h = let e : 32 - c ≡ 0 = omega arith in rw e (search_end t c plan)

  calls_step : (c : ℕ) → c < 32 → 32 - c ≡ suc (32 - suc c)
  calls_step c h = omega arith

  calls_skip : (c : ℕ) → c < 32 → t.lays c ≡ false → calls_from t c plan ≡ calls_from t (c + 1) plan
  unfolding calls_from
  calls_skip c h l = rw (calls_step c h, add-one c) (search_skips t (32 - suc c) c plan l)

  calls_lay : (c : ℕ) → c < 32 → t.lays c ≡ true → calls_from t c plan ≡ tries_from t c 0 plan
  unfolding calls_from tries_from
  calls_lay c h l = rw (calls_step c h) (search_lays t (32 - suc c) c plan l)

  module _ (c : ℕ) where
    slots_end : (s : ℕ) → 32 ≤ s → tries_from t c s plan ≡ nothing 0
    unfolding tries_from
    slots_end s h = let e : 32 - s ≡ 0 = omega arith in rw e (tries_end t (λ laid. calls_from t (suc c) laid) c s plan)

    slots_closed : (s : ℕ) → s < 32 → t.opens c s ≡ false → tries_from t c s plan ≡ tries_from t c (suc s) plan
    unfolding tries_from
    slots_closed s h o = rw (calls_step s h) (tries_closed t (λ laid. calls_from t (suc c) laid) c (32 - suc s) s plan o)

    -- closed slots are passed
    slots_pass : (n s r : ℕ) → s + n ≡ r → r ≤ 32 → ((i : ℕ) → s ≤ i → i < r → t.opens c i ≡ false) → tries_from t c s plan ≡ tries_from t c r plan
    slots_pass zero s r e h closed = let z : s ≡ r = omega arith in rw z refl
    slots_pass (suc n) s r e h closed =
        slots_closed s (omega arith) (closed s (omega arith) (omega arith)) ∙ slots_pass n (suc s) r (omega arith) h (λ i l m. closed i (omega arith) m)

    slots_open : (s : ℕ) → s < 32 → t.opens c s ≡ true → tries_from t c s plan ≡ after 1 (or_next (behind_slot t c s plan) (tries_from t c (s + 1) plan))
    unfolding tries_from behind_slot
    slots_open s h o = rw (calls_step s h, add-one c, add-one s) (tries_open t (λ laid. calls_from t (suc c) laid) c (32 - suc s) s plan o)

    -- what the plan has for the call does not matter to them
    slots_set : (v s : ℕ) → tries_from t c s (set plan c v) ≡ tries_from t c s plan
    unfolding tries_from
    slots_set v s = tries_set t (λ laid. calls_from t (suc c) laid) c v (32 - s) s plan

-- TRIALS BEFORE A STEP: what was left before them is what is left after them, and they
ended_later : (e : Ending) (plan : List ℕ) (n m : ℕ) → ended_with e plan (n + m) ≡ later n (ended_with e plan m)
ended_later ending.Found plan n m = refl
ended_later ending.Nothing plan n m = refl
ended_later ending.Stopped plan n m = refl

ended_behind : (e : Ending) (plan : List ℕ) (r : Result) (left before rest : ℕ) → rest ≤ left → left ≤ before → 0 < left
    → ended_with e plan (left - rest) ≡ cut (left - 1) r → ended_with e plan (before - rest) ≡ cut (before - 1) (after (before - left) r)
ended_behind e plan r left before rest h l pos is =
    let a : before - rest ≡ before - left + (left - rest) = omega arith in
    let b : before - 1 ≡ before - left + (left - 1) = omega arith in
    rw (a, b) (ended_later e plan (before - left) (left - rest) ∙ ap (later (before - left)) is ∙ sym (cut_later (before - left) (left - 1) r))

-- THE STEPS, with so much left
module _ (t : Task) (left : ℕ) (plan : List ℕ) (c : ℕ) (pos : 0 < left) where
  none_made : left - left ≡ 0
  none_made = omega arith

  -- the calls: all are passed, one is skipped, one is to be laid
  pub calls_done : 32 ≤ c → Clear c plan → StepEnded (calls_from t c plan) left left plan plan ending.Found
  calls_done h clear =
      record {
        ended = rw none_made (sym (ap (cut (left - 1)) (calls_end t plan c h) ∙ rw (le-leb 0 (left - 1) (omega arith)) refl));
        fewer = omega arith;
        remains = pos;
        size = clear.size;
        undone = tt;
      }

  pub call_skipped : {rest : ℕ} {back after : List ℕ} {e : Ending} → c < 32 → t.lays c ≡ false → StepEnded (calls_from t (c + 1) plan) left rest back after e
      → StepEnded (calls_from t c plan) left rest back after e
  call_skipped h l x = rw (calls_skip t plan c h l) x

  pub call_laid : {rest : ℕ} {after : List ℕ} {e : Ending} → c < 32 → t.lays c ≡ true → Clear c plan
      → StepEnded (tries_from t c 0 plan) left rest (set plan c no_slot_given) after e → StepEnded (calls_from t c plan) left rest plan after e
  call_laid {rest} {after} {e} h l clear x =
      let y : StepEnded (tries_from t c 0 plan) left rest plan after e = rw (clear_away c plan clear) at x in rw (calls_lay t plan c h l) y

  -- the slots: none is left, what is behind one ends the search, or lets the next be tried
  module _ {mask slot s : ℕ} (opens : (i : ℕ) → t.opens c i ≡ eqb (bit_of mask i) 1) (next : FirstOpen mask slot s) where
    passed : (r : ℕ) → slot ≤ r → r ≤ s → r ≤ 32 → tries_from t c slot plan ≡ tries_from t c r plan
    passed r from most last =
        slots_pass t plan c (r - slot) slot r (omega arith) last
        (λ i h l. opens i ∙ ne_eqb (bit_of mask i) 1 (λ e. let z = next.closed i h (omega arith) in omega arith))

    opened : s < 32 → tries_from t c slot plan ≡ after 1 (or_next (behind_slot t c s plan) (tries_from t c (s + 1) plan))
    opened h = passed s next.from (omega arith) (omega arith) ∙ slots_open t plan c s h (opens s ∙ eq-eqb (bit_of mask s) 1 (next.here h))

    pub slots_done : slot ≤ 32 → 32 ≤ s → Clear (c + 1) plan → StepEnded (tries_from t c slot plan) left left (set plan c no_slot_given) (set plan c no_slot_given) ending.Nothing
    slots_done le h clear =
        record {
          ended = rw none_made (sym (ap (cut (left - 1)) (passed 32 le h (omega arith) ∙ slots_end t plan c 32 (omega arith)) ∙ rw (le-leb 0 (left - 1) (omega arith)) refl));
          fewer = omega arith;
          remains = pos;
          size = length-set plan c no_slot_given ∙ clear.size;
          undone = refl;
        }

    module _ (h : s < 32) where
      ends : (e : Ended) → e ≡ cut (left - 1) (after 1 (behind_slot t c s plan)) → goes_on? e ≡ false → e ≡ cut (left - 1) (tries_from t c slot plan)
      ends e is off = cut_first (left - 1) (behind_slot t c s plan) (tries_from t c (s + 1) plan) e is off ∙ sym (ap (cut (left - 1)) (opened h))

      pub slot_found : {rest : ℕ} {back laid : List ℕ} → StepEnded (after 1 (behind_slot t c s plan)) left rest back laid ending.Found
          → StepEnded (tries_from t c slot plan) left rest (set plan c no_slot_given) laid ending.Found
      slot_found {rest} {back} {laid} x =
          record { ended = ends (full laid (left - rest)) x.ended refl; fewer = x.fewer; remains = x.remains; size = x.size; undone = tt }

      pub slot_stops : {rest : ℕ} {back laid : List ℕ} → StepEnded (after 1 (behind_slot t c s plan)) left rest back laid ending.Stopped
          → StepEnded (tries_from t c slot plan) left rest (set plan c no_slot_given) laid ending.Stopped
      slot_stops {rest} {back} {laid} x =
          record { ended = ends stopped x.ended refl; fewer = x.fewer; remains = x.remains; size = x.size; undone = tt }

      pub slot_leaves : {between rest : ℕ} {laid last : List ℕ} {e : Ending} → StepEnded (after 1 (behind_slot t c s plan)) left between (set plan c s) laid ending.Nothing
          → StepEnded (tries_from t c (s + 1) laid) between rest (set laid c no_slot_given) last e → StepEnded (tries_from t c slot plan) left rest (set plan c no_slot_given) last e
      slot_leaves {between} {rest} {laid} {last} {e} x y =
          let same : tries_from t c (s + 1) laid ≡ tries_from t c (s + 1) plan = rw x.undone (slots_set t plan c s (s + 1)) in
          let back : set laid c no_slot_given ≡ set plan c no_slot_given = rw x.undone (set-set plan c s no_slot_given) in
          let z : StepEnded (tries_from t c (s + 1) plan) between rest (set plan c no_slot_given) last e = rw (same, back) at y in
          record {
            ended =
                ended_behind e last (tries_from t c (s + 1) plan) between left rest z.fewer x.fewer x.remains z.ended
                ∙ cut_on (left - 1) (behind_slot t c s plan) (tries_from t c (s + 1) plan) (left - between) x.ended
                ∙ sym (ap (cut (left - 1)) (opened h));
            fewer = let a = z.fewer in let b = x.fewer in omega arith;
            remains = z.remains;
            size = z.size;
            undone = z.undone;
          }

  -- one slot: no trial is left for it, it does not stay, or it does
  module _ (s : ℕ) (clear : Clear (c + 1) plan) where
    pub slot_stopped : {back : List ℕ} → left - 1 ≡ 0 → StepEnded (after 1 (behind_slot t c s plan)) left (left - 1) back plan ending.Stopped
    slot_stopped z =
        record {
          ended = sym (cut_over (left - 1) 1 (behind_slot t c s plan) (omega arith));
          fewer = omega arith;
          remains = z;
          size = clear.size;
          undone = tt;
        }

    pub slot_vain : left - 1 ≢ 0 → t.stays c (set plan c s) ≡ false → StepEnded (after 1 (behind_slot t c s plan)) left (left - 1) (set plan c s) (set plan c s) ending.Nothing
    unfolding behind_slot
    slot_vain n st =
        let one : left - (left - 1) ≡ 1 = omega arith in
        record {
          ended = rw (st, one, le-leb 1 (left - 1) (omega arith)) refl;
          fewer = omega arith;
          remains = omega arith;
          size = length-set plan c s ∙ clear.size;
          undone = refl;
        }

    pub slot_stays : {rest : ℕ} {back laid : List ℕ} {e : Ending} → left - 1 ≢ 0 → t.stays c (set plan c s) ≡ true
        → StepEnded (calls_from t (c + 1) (set plan c s)) (left - 1) rest back laid e → StepEnded (after 1 (behind_slot t c s plan)) left rest back laid e
    unfolding behind_slot
    slot_stays {rest} {back} {laid} {e} n st x =
        let one : left - (left - 1) ≡ 1 = omega arith in
        let behind = ended_behind e laid (calls_from t (c + 1) (set plan c s)) (left - 1) left rest x.fewer (omega arith) (omega arith) x.ended in
        record {
          ended = rw st (rw one at behind);
          fewer = let a = x.fewer in omega arith;
          remains = x.remains;
          size = x.size;
          undone = x.undone;
        }
