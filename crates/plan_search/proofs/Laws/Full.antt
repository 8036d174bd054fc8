-- THE SEARCH ON A BOARD FINDS THE FIRST FULL PLAN, and nothing exactly where there is none (SCOPE 5.9). A plan laid in part stays so: each rule that is due has a row that
-- fits. With every call passed each rule with an active column is due. And a full plan is never passed over: its slots are open, and with them all due rules fit. Assumes
-- nothing.
use Rattle.std.specs.Prelude.{◌≡◌, true, false, List, ◌⊎◌, ℕ, suc, ◌<◌, ◌≤◌, length, set, T, ltb}
use Rattle.std.proofs.Math.Path.{refl}
use Rattle.std.proofs.Common.{sym, ap, subst, ◌∙◌, inl, inr, ⊎_elim, arith, length-set, get_or-set_same, get_or-set_other, ltb→lt, lt→ltb}
use Rattle.std.proofs.Math.ListN.{length-replicate, get_or-eq_default}
use Rattle.std.proofs.lemmas.List.{get_or-replicate}
use Rattle.tables.specs.Laws.Facts.{true_false, true_or_false, lt_or_le, eq_or_ne}
use Rattle.model.specs.Board.{Board, call_at, cancelled_on?, live?, Live, Cancelled, OnBoard, InForce, Active, KeepsRule, FullPlan, Shape, no_slot_given}
use Rattle.model.specs.Representation.{rule_or, rule_at}
use Rattle.model.proofs.Laws.Filter.{found_viable}
use Rattle.model.proofs.Laws.Tests.{and→, →and, →T, T→, T?, not→}
use Rattle.model.proofs.Laws.Theory.{on_count, live_not, not_live, active_below, active_live, below_active, numbered, plan_viable}
use Rattle.plan_model.specs.Plans.{plan_size, rules_of, slot_in, fitted?}
use Rattle.plan_model.proofs.Laws.Fits.{fitted→, →fitted, column_force}
use Rattle.plan_search.specs.Search.{Result, found, nothing, Task, laid?, stays?}
use Rattle.plan_search.specs.First.{no_plan, Clear, board_task, search_all, Before}
use Rattle.plan_search.proofs.Laws.Complete.{IfFound, FoundWith, NotBefore, search_invariant, search_complete}
use Rattle.plan_search.proofs.Laws.Stays.{not_laid, slot_laid, RuleDue, stays→, →stays}

-- no call of no plan is laid
pub no_slot : (c : ℕ) → slot_in no_plan c ≡ no_slot_given
no_slot c =
    ⊎_elim (λ h. get_or-replicate plan_size c no_slot_given no_slot_given h)
    (λ (h : plan_size ≤ c). let le : length no_plan ≤ c = h in get_or-eq_default no_plan no_slot_given le) (lt_or_le c plan_size)

pub clear_first : Clear 0 no_plan
clear_first = record { size = length-replicate {A = ℕ} plan_size no_slot_given; none = λ d h. no_slot d }

module _ (B : Board) (shape : Shape B) where
  abbrev t : Task
  t = board_task B

  lays→ : (c : ℕ) → t.lays c ≡ true → (c < length B.counts) × Live B c
  lays→ c e =
      let both = and→ (ltb c (length B.counts)) (live? B c) (→T (t.lays c) e) in
      (ltb→lt c (length B.counts) both.0, both.1)

  →lays : (c : ℕ) → c < length B.counts → Live B c → t.lays c ≡ true
  →lays c h l = T→ (t.lays c) (→and (ltb c (length B.counts)) (live? B c) (lt→ltb c (length B.counts) h) l)

  open_on : (c s : ℕ) → t.opens c s ≡ true → OnBoard B c s
  open_on c s e = let v = (found_viable B c s).0 (→T (t.opens c s) e) in v.self.slots c s v.has

  on_small : (c s : ℕ) → c < length B.counts → OnBoard B c s → s < 32
  on_small c s h on = omega (arith, on_count B c s on, (shape.counts c h).1)

  -- THE PLAN BEFORE CALL c: of the calls before it those that get a slot have one of the board, every other call has none, and the last slot stays
  record Partial (c : ℕ) (plan : List ℕ) : Type 0 where
    size : length plan ≡ 32
    laid : (d : ℕ) → d < c → t.lays d ≡ true → OnBoard B d (slot_in plan d)
    past : (d : ℕ) → c ≤ d → slot_in plan d ≡ no_slot_given
    skipped : (d : ℕ) → t.lays d ≡ false → slot_in plan d ≡ no_slot_given
    stays : T (stays? (rules_of B) plan)

  partial_start : Partial 0 no_plan
  partial_start =
      record {
        size = length-replicate {A = ℕ} 32 no_slot_given;
        laid = λ d h l. absurd (omega arith);
        past = λ d h. no_slot d;
        skipped = λ d h. no_slot d;
        stays = →stays B no_plan (λ p h due. let c = call_at (rule_at B p) due.column in absurd (not_laid no_plan c (no_slot c) due.laid));
      }

  partial_skip : (c : ℕ) (plan : List ℕ) → c < 32 → Partial c plan → t.lays c ≡ false → Partial (suc c) plan
  partial_skip c plan h i l =
      record {
        size = i.size;
        laid = λ d hd ld.
            ⊎_elim (λ (e : d ≡ c). absurd (true_false (rw e at ld) l)) (λ n. i.laid d (omega (arith, n)) ld) (eq_or_ne d c);
        past = λ d hd. i.past d (omega arith);
        skipped = i.skipped;
        stays = i.stays;
      }

  partial_lay : (c s : ℕ) (plan : List ℕ) → c < 32 → s < 32 → Partial c plan → t.lays c ≡ true → t.opens c s ≡ true
      → stays? (rules_of B) (set plan c s) ≡ true → Partial (suc c) (set plan c s)
  partial_lay c s plan h ls i l o st =
      record {
        size = length-set plan c s ∙ i.size;
        laid = λ d hd ld.
            ⊎_elim (λ (e : d ≡ c). rw (e, get_or-set_same plan c s no_slot_given (rw i.size h)) (open_on c s o))
            (λ n. rw (get_or-set_other plan c d s no_slot_given n) (i.laid d (omega arith) ld)) (eq_or_ne d c);
        past = λ d hd. get_or-set_other plan c d s no_slot_given (λ e. omega arith) ∙ i.past d (omega arith);
        skipped = λ d ld. get_or-set_other plan c d s no_slot_given (λ e. true_false l (rw e at ld)) ∙ i.skipped d ld;
        stays = →T (stays? (rules_of B) (set plan c s)) st;
      }

  -- WITH EVERY CALL PASSED IT IS A FULL PLAN
  partial_full : (q : List ℕ) → Partial 32 q → FullPlan B (slot_in q)
  partial_full q i =
      record {
        gives = λ c h l. i.laid c (omega (arith, shape.calls)) (→lays c h l);
        absent = λ c g. i.skipped c (not→ (t.lays c) (λ x. live_not B c (lays→ c (T→ (t.lays c) x)).1 g));
        keeps = λ p r f.
            let e = ap rule_or f in
            subst (KeepsRule B (slot_in q)) e (kept p (rw (← shape.numbers) (numbered B p r f)) (rw e f));
      }
    where
      laid_at_lem : (p : ℕ) → InForce B p (rule_at B p) → (k : ℕ) → Active B (rule_at B p) k → T (laid? q (call_at (rule_at B p) k))
      laid_at_lem p f k a =
          let c = call_at (rule_at B p) k in
          let there = (shape.rules p (rule_at B p) f).scope k (active_below B (rule_at B p) k a) in
          let on = i.laid c (omega (arith, shape.calls)) (→lays c there (active_live B (rule_at B p) k a)) in
          slot_laid q c (omega (arith, on_small c (slot_in q c) there on))

      kept : (p : ℕ) → p < 64 → InForce B p (rule_at B p) → KeepsRule B (slot_in q) (rule_at B p)
      kept p h f j a =
          fitted→ B q p
          (stays→ B q i.stays p h (record { column = j; there = active_below B (rule_at B p) j a; laid = laid_at_lem p f j a; each = laid_at_lem p f }))

  -- A FULL PLAN P IS FOLLOWED: the calls before c have its slots, and every other call none
  module _ (P : ℕ → ℕ) (plan-full : FullPlan B P) where
    record Follows (c : ℕ) (plan : List ℕ) : Type 0 where
      size : length plan ≡ 32
      same : (d : ℕ) → d < c → t.lays d ≡ true → slot_in plan d ≡ P d
      past : (d : ℕ) → c ≤ d → slot_in plan d ≡ no_slot_given
      skipped : (d : ℕ) → t.lays d ≡ false → slot_in plan d ≡ no_slot_given

    -- a call that is laid has P's slot
    laid_same : (c : ℕ) (plan : List ℕ) → Follows c plan → (d : ℕ) → T (laid? plan d) → (t.lays d ≡ true) × (slot_in plan d ≡ P d)
    laid_same c plan i d x = go (true_or_false (t.lays d)) (lt_or_le d c)
      where
        go : (t.lays d ≡ true) ⊎ (t.lays d ≡ false) → (d < c) ⊎ (c ≤ d) → (t.lays d ≡ true) × (slot_in plan d ≡ P d)
        go (inl l) (inl h) = (l, i.same d h l)
        go (inl l) (inr h) = absurd (not_laid plan d (i.past d h) x)
        go (inr l) h = absurd (not_laid plan d (i.skipped d l) x)

    -- so a rule that is due has the row that fits P
    follows_stays : (c : ℕ) (plan : List ℕ) → Follows c plan → T (stays? (rules_of B) plan)
    follows_stays c plan i = →stays B plan (λ p h due. fit p due)
      where
        fit : (p : ℕ) → RuleDue B plan (rule_at B p) → T (fitted? (rules_of B) plan p)
        fit p due =
            let r = rule_at B p in
            let j = due.column in
            let live = (lays→ (call_at r j) (laid_same c plan i (call_at r j) due.laid).0).1 in
            let row = plan-full.keeps p r (column_force B plan p j due.there) j (below_active B r j due.there live) in
            →fitted B plan p row.0 row.1 (λ k a. row.2 k a ∙ sym (laid_same c plan i (call_at r k) (due.each k a)).1)

    follows_lay : (c : ℕ) (plan : List ℕ) → c < 32 → Follows c plan → t.lays c ≡ true → Follows (suc c) (set plan c (P c))
    follows_lay c plan h i l =
        record {
          size = length-set plan c (P c) ∙ i.size;
          same = λ d hd ld.
              ⊎_elim (λ (e : d ≡ c). rw e (get_or-set_same plan c (P c) no_slot_given (rw i.size h)))
              (λ n. get_or-set_other plan c d (P c) no_slot_given n ∙ i.same d (omega arith) ld) (eq_or_ne d c);
          past = λ d hd. get_or-set_other plan c d (P c) no_slot_given (λ e. omega arith) ∙ i.past d (omega arith);
          skipped = λ d ld. get_or-set_other plan c d (P c) no_slot_given (λ e. true_false l (rw e at ld)) ∙ i.skipped d ld;
        }

    follows_skip : (c : ℕ) (plan : List ℕ) → c < 32 → Follows c plan → t.lays c ≡ false → Follows (suc c) plan
    follows_skip c plan h i l =
        record {
          size = i.size;
          same = λ d hd ld. ⊎_elim (λ (e : d ≡ c). absurd (true_false (rw e at ld) l)) (λ n. i.same d (omega (arith, n)) ld) (eq_or_ne d c);
          past = λ d hd. i.past d (omega arith);
          skipped = i.skipped;
        }

    never_passed : FoundWith (NotBefore t P 0) (search_all t)
    unfolding search_all
    never_passed =
        search_complete t P Follows follows_skip
        (λ c plan h i l.
        let on = lays→ c l in
        let v = plan_viable B P shape plan-full c on.0 on.1 in
        let further = follows_lay c plan h i l in
        record {
          below = on_small c (P c) on.0 (v.self.slots c (P c) v.has);
          opens = T→ (t.opens c (P c)) ((found_viable B c (P c)).1 v);
          stays = T→ (stays? (rules_of B) (set plan c (P c))) (follows_stays (suc c) (set plan c (P c)) further);
          further = further;
        })
        32 0 no_plan refl (length-replicate {A = ℕ} 32 no_slot_given)
        (record {
          size = length-replicate {A = ℕ} 32 no_slot_given;
          same = λ d h l. absurd (omega arith);
          past = λ d h. no_slot d;
          skipped = λ d h. no_slot d;
        })

  passed_all : IfFound (Partial 32) (search_all t)
  unfolding search_all
  passed_all = search_invariant t Partial partial_skip partial_lay 32 0 no_plan refl partial_start

  module _ (q : List ℕ) (n : ℕ) (e : search_all t ≡ found q n) where
    all_laid : Partial 32 q
    all_laid = rw e at passed_all

    -- A PLAN THAT IS FOUND IS FULL,
    pub found_full : FullPlan B (slot_in q)
    found_full = partial_full q all_laid

    -- has 32 bytes, and 255 for the calls that get no slot,
    pub found_size : length q ≡ plan_size
    found_size = all_laid.size

    pub found_blank : (c : ℕ) → length B.counts ≤ c → slot_in q c ≡ no_slot_given
    found_blank c h = all_laid.skipped c (not→ (t.lays c) (λ x. let low = (lays→ c (T→ (t.lays c) x)).0 in omega arith))

    -- and no full plan comes before it
    pub found_first : (P : ℕ → ℕ) → FullPlan B P → Before (length B.counts) P (slot_in q) → ⊥
    found_first P full b = go (true_or_false (t.lays b.call))
      where
        not_before : NotBefore t P 0 q
        not_before = rw e at (never_passed P full)

        go : (t.lays b.call ≡ true) ⊎ (t.lays b.call ≡ false) → ⊥
        go (inl l) = not_before b.call (omega arith) (omega (arith, b.there, shape.calls)) l b.lower (λ d h h'. b.same d h')
        go (inr l) =
            let gone : Cancelled B b.call =
            ⊎_elim (λ g. g) (λ n. absurd (true_false (→lays b.call b.there (not_live B b.call n)) l)) (T? (cancelled_on? B b.call)) in
            omega (arith, b.lower, all_laid.skipped b.call l, full.absent b.call gone)

  -- NOTHING EXACTLY WHERE THERE IS NO FULL PLAN
  pub nothing_none : (n : ℕ) → search_all t ≡ nothing n → (P : ℕ → ℕ) → FullPlan B P → ⊥
  nothing_none n e P full = let found : FoundWith (NotBefore t P 0) (nothing n) = rw e at (never_passed P full) in found

  pub none_nothing : ((P : ℕ → ℕ) → FullPlan B P → ⊥) → (n : ℕ) × (search_all t ≡ nothing n)
  none_nothing never = go (search_all t) refl
    where
      go : (r : Result) → search_all t ≡ r → (n : ℕ) × (search_all t ≡ nothing n)
      go (found q n) e = absurd (never (slot_in q) (found_full q n e))
      go (nothing n) e = (n, e)
