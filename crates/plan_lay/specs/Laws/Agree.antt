-- THE SEARCH BY THE TABLES IS THE SEARCH OFF THE MEMORY. A rule is looked at once, with its last call: the others that are due were due before, with the same slots.
-- Assumes nothing.
use Rattle.std.specs.Prelude.{◌≡◌, refl, Bool, true, false, not, ◌||◌, List, ◌⊎◌, ℕ, suc, ◌+◌, ◌*◌, ◌<◌, ◌≤◌, length, get_or, set, eqb, T}
use Rattle.std.proofs.Common.{sym, ap, ◌∙◌, inl, inr, ⊎_elim, arith, eq-or-lt_of_le, length-set, get_or-set_same, get_or-set_other, eqb→eq, T_not, lt-ltb, le-ltb}
use Rattle.std.proofs.Math.Dec.{not_T}
use Rattle.std.proofs.lemmas.List.{length-replicate}
use Rattle.tables.specs.Masks.{bit_of}
use Rattle.tables.specs.Laws.Facts.{true_false, true_or_false, eq_or_ne, lt_or_le, find_below, any_default}
use Rattle.layout.specs.Places.{cause_of, rows_of}
use Rattle.layout.specs.Memory.{State}
use Rattle.masks.specs.Laws.Columns.{four}
use Rattle.model.specs.Board.{no_slot_given}
use Rattle.model.specs.Tests.{some?, every?}
use Rattle.model.specs.Report.{open?}
use Rattle.model.proofs.Laws.Tests.{and→, →and, or→, →or, →T, T→, same_test, →eqb, T?, some→, →some, every→, →every}
use Rattle.model.proofs.Laws.Search.{some_same, every_same}
use Rattle.plan_model.specs.Plans.{RulesRead, rules_in, slot_in, fits?, fitted?}
use Rattle.plan_fit.specs.Words.{mask_byte, plan_byte, row_matches?}
use Rattle.plan_fit.specs.Laws.Fits.{matched_fitted}
use Rattle.plan_search.specs.Search.{Task, laid?, due?, stays?}
use Rattle.plan_search.specs.First.{no_plan, memory_task, search_all}
use Rattle.plan_search.proofs.Laws.Search.{search_same}
use Rattle.plan_search.proofs.Laws.Stays.{not_laid, slot_laid}
use Rattle.plan_search.proofs.Laws.Full.{no_slot}
use Rattle.plan_tables.specs.declared.lookup.Tables.{Tables}
use Rattle.plan_tables.specs.Lookup.{columns_at, mask_by}
use Rattle.plan_tables.specs.Due.{rule_stage}
use Rattle.plan_lay.specs.Lay.{table_task, TablesOf, calls_from}
use Rattle.plan_tables.specs.Fit.{wanted_by, fitted_by, stays_by}
use Rattle.plan_tables.specs.Laws.Lookup.{columns_of_lem}
use Rattle.plan_tables.specs.Laws.Last.{lays_agree, stage→last, last→stage}

-- A RULE THAT IS DUE, of the rules as they are read: some call of it is laid, and each is laid or cancelled
pub record DueRead (R : RulesRead) (plan : List ℕ) (p : ℕ) : Type 0 where
  pub column : ℕ
  pub there : column < R.columns p
  pub laid : T (laid? plan (R.call p column))
  pub each : (k : ℕ) → k < R.columns p → T (R.off (R.call p k)) ⊎ T (laid? plan (R.call p k))

module _ (R : RulesRead) (plan : List ℕ) (p : ℕ) where
  abbrev laid_at : ℕ → Bool
  laid_at k = laid? plan (R.call p k)

  abbrev laid_or_off : ℕ → Bool
  laid_or_off k = R.off (R.call p k) || laid_at k

  read→due : T (due? R plan p) → DueRead R plan p
  unfolding due?
  read→due t =
      let both = and→ (some? (R.columns p) laid_at) (every? (R.columns p) laid_or_off) t in
      let one = some→ (R.columns p) laid_at both.0 in
      record {
        column = one.0;
        there = one.1;
        laid = one.2;
        each = λ k h. or→ (R.off (R.call p k)) (laid_at k) (every→ (R.columns p) laid_or_off both.1 k h);
      }

  due→read : DueRead R plan p → T (due? R plan p)
  unfolding due?
  due→read d =
      →and (some? (R.columns p) laid_at) (every? (R.columns p) laid_or_off) (→some (R.columns p) laid_at d.column d.there d.laid)
      (→every (R.columns p) laid_or_off (λ k h. →or (R.off (R.call p k)) (laid_at k) (d.each k h)))

  -- plans with the same slots for the rule's calls fit it alike
  fitted_alike : (other : List ℕ) → ((k : ℕ) → k < R.columns p → slot_in plan (R.call p k) ≡ slot_in other (R.call p k)) → fitted? R plan p ≡ fitted? R other p
  unfolding fitted? fits?
  fitted_alike other same =
      let agrees : List ℕ → ℕ → ℕ → Bool = λ q w k. R.off (R.call p k) || eqb (R.slot p w k) (slot_in q (R.call p k)) in
      some_same (R.rows p) (λ w. every? (R.columns p) (agrees plan w)) (λ w. every? (R.columns p) (agrees other w))
      (λ w hw. every_same (R.columns p) (agrees plan w) (agrees other w) (λ k h. let e = same k h in rw e refl))

module _ (R : RulesRead) (plan : List ℕ) where
  abbrev settled : ℕ → Bool
  settled p = not (due? R plan p) || fitted? R plan p

  stays→each : T (stays? R plan) → (p : ℕ) → p < 64 → DueRead R plan p → T (fitted? R plan p)
  unfolding stays?
  stays→each t p h d =
      ⊎_elim (λ n. absurd (T_not (due? R plan p) n (due→read R plan p d))) (λ f. f) (or→ (not (due? R plan p)) (fitted? R plan p) (every→ 64 settled t p h))

  each→stays : ((p : ℕ) → p < 64 → DueRead R plan p → T (fitted? R plan p)) → T (stays? R plan)
  unfolding stays?
  each→stays all =
      →every 64 settled
      (λ p h.
      →or (not (due? R plan p)) (fitted? R plan p)
      (⊎_elim (λ d. inr (all p h (read→due R plan p d))) (λ n. inl (not_T (due? R plan p) n)) (T? (due? R plan p))))

-- WHERE THE SEARCH STANDS before call c, off the memory
pub record Stands (s : State) (c : ℕ) (plan : List ℕ) : Type 0 where
  pub size : length plan ≡ 32
  pub laid : (d : ℕ) → d < c → (memory_task s).lays d ≡ true → slot_in plan d < 32
  pub past : (d : ℕ) → c ≤ d → slot_in plan d ≡ no_slot_given
  pub skipped : (d : ℕ) → (memory_task s).lays d ≡ false → slot_in plan d ≡ no_slot_given
  pub stays : T (stays? (rules_in s) plan)

module _ (s : State) (t : Tables) (of : TablesOf s.value.heads s.rows s.slots t) (bytes : (j : ℕ) → get_or s.rows j 0 < 256) where
  abbrev m : Task
  m = memory_task s

  abbrev R : RulesRead
  R = rules_in s

  -- A ROW WITH THE PLAN'S SLOTS by the tables is one that fits
  fitted_agree : (plan : List ℕ) → length plan ≡ 32 → ((i : ℕ) → i < 32 → get_or plan i 0 < 256) → (p : ℕ) → p < 64
      → fitted_by t plan p ≡ fitted? R plan p
  unfolding fitted_by wanted_by
  fitted_agree plan size small p hp =
      ap (λ (l : List ℕ). some? (rows_of l p) (λ w. eqb (get_or t.words (64 * p + w) 0) (wanted_by t.columns plan p))) of.lengths
      ∙ some_same (R.rows p) (λ w. eqb (get_or t.words (64 * p + w) 0) (wanted_by t.columns plan p))
      (row_matches? s.rows p (mask_by t.columns p) (wanted_by t.columns plan p)) (λ w h. rw (of.words.each p hp w h) refl)
      ∙ matched_fitted s plan size p (columns_of_lem _ _ t.columns of.columns p hp)
      (record { is = refl; small = four (λ k. mask_byte (at k) < 256) (mask (at 0)) (mask (at 1)) (mask (at 2)) (mask (at 3)) })
      (record { is = refl; small = four (λ k. plan_byte plan (at k) < 256) (byte (at 0)) (byte (at 1)) (byte (at 2)) (byte (at 3)) }) bytes
    where
      at : ℕ → ℕ
      at k = get_or (columns_at t.columns p) k 0

      mask : (call : ℕ) → mask_byte call < 256
      mask call = ⊎_elim (λ h. rw (lt-ltb call 32 h) (omega arith)) (λ h. rw (le-ltb call 32 h) (omega arith)) (lt_or_le call 32)

      byte : (call : ℕ) → plan_byte plan call < 256
      byte call = ⊎_elim (λ h. rw (lt-ltb call 32 h) (small call h)) (λ h. rw (le-ltb call 32 h) (omega arith)) (lt_or_le call 32)

  -- A SLOT IS LAID
  module _ (c v : ℕ) (plan : List ℕ) (hc : c < 32) (hv : v < 32) (i : Stands s c plan) (l : m.lays c ≡ true) where
    abbrev next : List ℕ
    next = set plan c v

    at_call : slot_in next c ≡ v
    at_call = get_or-set_same plan c v no_slot_given (rw i.size hc)

    at_other : (d : ℕ) → (d ≡ c → ⊥) → slot_in next d ≡ slot_in plan d
    at_other d ne = get_or-set_other plan c d v no_slot_given ne

    -- the calls that are laid are those to be laid up to c
    laid→ : (d : ℕ) → T (laid? next d) → (m.lays d ≡ true) × (d ≤ c)
    laid→ d t = ⊎_elim (λ (e : d ≡ c). (rw e l, omega arith)) (λ ne. other ne (true_or_false (m.lays d)) (lt_or_le d c)) (eq_or_ne d c)
      where
        other : (d ≡ c → ⊥) → (m.lays d ≡ true) ⊎ (m.lays d ≡ false) → (d < c) ⊎ (c ≤ d) → (m.lays d ≡ true) × (d ≤ c)
        other ne (inl y) (inl lt) = (y, omega arith)
        other ne (inl y) (inr le) = absurd (not_laid next d (at_other d ne ∙ i.past d le) t)
        other ne (inr y) o = absurd (not_laid next d (at_other d ne ∙ i.skipped d y) t)

    →laid : (d : ℕ) → m.lays d ≡ true → d ≤ c → T (laid? next d)
    →laid d y le =
        ⊎_elim (λ (e : d ≡ c). slot_laid next d (rw (e, at_call) (omega arith)))
        (λ ne. let x = i.laid d (omega arith) y in let z = at_other d ne in slot_laid next d (omega arith)) (eq_or_ne d c)

    next_size : length next ≡ 32
    next_size = length-set plan c v ∙ i.size

    next_small : (j : ℕ) → j < 32 → get_or next j 0 < 256
    next_small j hj = let e = any_default 0 no_slot_given next j (rw next_size hj) in let b = by (eq_or_ne j c) (true_or_false (m.lays j)) (lt_or_le j c) in omega arith
      where
        by : (j ≡ c) ⊎ (j ≡ c → ⊥) → (m.lays j ≡ true) ⊎ (m.lays j ≡ false) → (j < c) ⊎ (c ≤ j) → slot_in next j < 256
        by (inl x) y o = rw (x, at_call) (omega arith)
        by (inr ne) (inl y) (inl lt) = let x = i.laid j lt y in let z = at_other j ne in omega arith
        by (inr ne) (inl y) (inr le) = let x = i.past j le in let z = at_other j ne in omega arith
        by (inr ne) (inr y) o = let x = i.skipped j y in let z = at_other j ne in omega arith

    -- a rule whose last call it is is due,
    last_due : (p : ℕ) → p < 64 → rule_stage t.held t.columns p ≡ c + 1 → DueRead R next p
    last_due p hp e =
        let last = stage→last s t.columns t.held of.columns of.held p c hp hc e in
        record {
          column = last.column;
          there = last.there;
          laid = rw last.here (→laid c l (omega arith));
          each = λ k h.
              ⊎_elim (λ off. inl (→T (R.off (R.call p k)) off)) (λ y. inr (→laid (R.call p k) y.0 y.1)) (last.each k h);
        }

    -- and another that is due was due before, with its calls laid as before
    due_before : (p : ℕ) → p < 64 → DueRead R next p
        → (rule_stage t.held t.columns p ≡ c + 1) ⊎ (DueRead R plan p × ((k : ℕ) → k < R.columns p → slot_in plan (R.call p k) ≡ slot_in next (R.call p k)))
    due_before p hp d = go (find_below (λ k. R.call p k ≡ c) (λ k. eq_or_ne (R.call p k) c) (R.columns p))
      where
        go : ((j : ℕ) × (j < R.columns p) × (R.call p j ≡ c)) ⊎ ((k : ℕ) → k < R.columns p → R.call p k ≡ c → ⊥)
            → (rule_stage t.held t.columns p ≡ c + 1) ⊎ (DueRead R plan p × ((k : ℕ) → k < R.columns p → slot_in plan (R.call p k) ≡ slot_in next (R.call p k)))
        go (inl at) =
            inl (last→stage s t.columns t.held of.columns of.held p c hp l
            (record {
              column = at.0;
              there = at.1;
              here = at.2;
              each = λ k h. ⊎_elim (λ off. inl (T→ (R.off (R.call p k)) off)) (λ y. inr (laid→ (R.call p k) y)) (d.each k h);
            }))
        go (inr never) =
            let same : (k : ℕ) → k < R.columns p → slot_in next (R.call p k) ≡ slot_in plan (R.call p k) = λ k h. at_other (R.call p k) (never k h) in
            let was : (k : ℕ) → k < R.columns p → T (laid? next (R.call p k)) → T (laid? plan (R.call p k)) = λ k h y. rw (same k h) at y in
            inr (
              record {
                column = d.column;
                there = d.there;
                laid = was d.column d.there d.laid;
                each = λ k h. ⊎_elim (λ off. inl off) (λ y. inr (was k h y)) (d.each k h);
              },
              λ k h. sym (same k h),
            )

    abbrev fits : ℕ → Bool
    fits p = fitted_by t next p

    abbrev is_due : ℕ → Bool
    is_due p = eqb (bit_of (get_or t.due c 0) p) 1

    abbrev passes : ℕ → Bool
    passes p = not (is_due p) || fits p

    -- THE SLOT STAYS by the tables where it stays
    pub stays_agree : stays_by t (get_or t.due c 0) next ≡ stays? R next
    unfolding stays_by
    stays_agree = same_test (every? 64 passes) (stays? R next) (λ x. each→stays R next (λ p hp d. all x p hp d (due_before p hp d))) (λ x. →every 64 passes (λ p hp. each x p hp))
      where
        fitted : (p : ℕ) → p < 64 → fits p ≡ fitted? R next p
        fitted = fitted_agree next next_size next_small

        all : T (every? 64 passes) → (p : ℕ) → p < 64 → DueRead R next p
            → (rule_stage t.held t.columns p ≡ c + 1) ⊎ (DueRead R plan p × ((k : ℕ) → k < R.columns p → slot_in plan (R.call p k) ≡ slot_in next (R.call p k)))
            → T (fitted? R next p)
        all x p hp d (inl e) =
            ⊎_elim (λ n. absurd (T_not (is_due p) n (→eqb (bit_of (get_or t.due c 0) p) 1 ((of.due.each c hc).has p hp e)))) (λ f. rw (fitted p hp) at f)
            (or→ (not (is_due p)) (fits p) (every→ 64 passes x p hp))
        all x p hp d (inr b) = rw (fitted_alike R plan p next b.1) at (stays→each R plan i.stays p hp b.0)

        each : T (stays? R next) → (p : ℕ) → p < 64 → T (passes p)
        each x p hp =
            →or (not (is_due p)) (fits p)
            (⊎_elim (λ (e : bit_of (get_or t.due c 0) p ≡ 1). inr (rw (fitted p hp) (stays→each R next x p hp (last_due p hp ((of.due.each c hc).only p e).1))))
            (λ n. inl (not_T (is_due p) (λ y. n (eqb→eq (bit_of (get_or t.due c 0) p) 1 y)))) (eq_or_ne (bit_of (get_or t.due c 0) p) 1))

-- THE WHOLE SEARCH
module _ (s : State) where
  stands_first : Stands s 0 no_plan
  stands_first =
      record {
        size = length-replicate {A = ℕ} 32 no_slot_given;
        laid = λ d h l. absurd (omega arith);
        past = λ d h. no_slot d;
        skipped = λ d h. no_slot d;
        stays = each→stays (rules_in s) no_plan (λ p h d. let call = (rules_in s).call p d.column in absurd (not_laid no_plan call (no_slot call) d.laid));
      }

  stands_skip : (c : ℕ) (plan : List ℕ) → c < 32 → Stands s c plan → (memory_task s).lays c ≡ false → Stands s (suc c) plan
  stands_skip c plan h i l =
      record {
        size = i.size;
        laid = λ d hd ld.
            ⊎_elim (λ (e : suc d ≡ suc c). let z : d ≡ c = omega arith in absurd (true_false (rw z at ld) l)) (λ lower. i.laid d (omega arith) ld) (eq-or-lt_of_le hd);
        past = λ d hd. i.past d (omega arith);
        skipped = i.skipped;
        stays = i.stays;
      }

  stands_lay : (c v : ℕ) (plan : List ℕ) → c < 32 → v < 32 → Stands s c plan → (memory_task s).lays c ≡ true → T (stays? (rules_in s) (set plan c v))
      → Stands s (suc c) (set plan c v)
  stands_lay c v plan h hv i l st =
      record {
        size = length-set plan c v ∙ i.size;
        laid = λ d hd ld.
            ⊎_elim (λ (e : d ≡ c). rw (e, get_or-set_same plan c v no_slot_given (rw i.size h)) hv)
            (λ n. rw (get_or-set_other plan c d v no_slot_given n) (i.laid d (omega arith) ld)) (eq_or_ne d c);
        past = λ d hd. get_or-set_other plan c d v no_slot_given (λ e. omega arith) ∙ i.past d (omega arith);
        skipped = λ d ld. get_or-set_other plan c d v no_slot_given (λ e. true_false l (rw e at ld)) ∙ i.skipped d ld;
        stays = st;
      }

  module _ (t : Tables) (of : TablesOf s.value.heads s.rows s.slots t) (bytes : (j : ℕ) → get_or s.rows j 0 < 256) where
    opens_agree : (c i : ℕ) → c < 32 → i < 32 → open? s.slots c i ≡ eqb (bit_of (get_or t.opened c 0) i) 1
    opens_agree c i hc hi =
        same_test (open? s.slots c i) (eqb (bit_of (get_or t.opened c 0) i) 1)
        (λ x. →eqb (bit_of (get_or t.opened c 0) i) 1 ((of.opened.each c hc).has i hi (eqb→eq (cause_of s.slots c i) 255 x)))
        (λ x. →eqb (cause_of s.slots c i) 255 ((of.opened.each c hc).only i (eqb→eq (bit_of (get_or t.opened c 0) i) 1 x)).1)

    pub search_agrees : calls_from (table_task t) 0 no_plan ≡ search_all (memory_task s)
    unfolding calls_from search_all
    search_agrees =
        sym (search_same (memory_task s) (table_task t) (Stands s) stands_skip
        (λ c v plan h hv i l o st. stands_lay c v plan h hv i l (→T (stays? (rules_in s) (set plan c v)) st))
        (λ c h. sym (lays_agree s t.columns t.held of.columns of.held c h))
        (λ c i h hi. opens_agree c i h hi)
        (λ c v plan h hv i l o. sym (stays_agree s t of bytes c v plan h hv i l))
        32 0 no_plan refl stands_first)
