-- LAWS OF THE SEARCH, over any task: its clauses, that like tasks give like results, and how the ceiling cuts it call by call. Assumes nothing.
use Rattle.std.specs.Prelude.{◌≡◌, Bool, true, false, cond, List, ◌⊎◌, ℕ, zero, suc, ◌+◌, ◌<◌, ◌≤◌, set, leb}
use Rattle.std.proofs.Math.Path.{refl}
use Rattle.std.proofs.Common.{sym, ap, ◌∙◌, inl, inr, arith, length-set, set-set, get_or-set_other, leb-true, leb-false, le-leb}
use Rattle.std.proofs.lemmas.List.{set-get_or}
use Rattle.std.proofs.lemmas.Bool.{lt-leb}
use Rattle.tables.specs.Laws.Facts.{true_false, true_or_false}
use Rattle.plan_search.specs.Search.{Result, found, nothing, after, or_next, Task, tries, search}
use Rattle.model.specs.Board.{no_slot_given}
use Rattle.plan_search.specs.First.{Clear, Ended, full, none, stopped, cut}

-- THE CLAUSES of the search, as equations
module _ (t : Task) (deeper : List ℕ → Result) (c m s : ℕ) (plan : List ℕ) where
  pub tries_closed : t.opens c s ≡ false → tries t deeper c (suc m) s plan ≡ tries t deeper c m (suc s) plan
  unfolding tries
  tries_closed e = rw e refl

  pub tries_open : t.opens c s ≡ true
      → tries t deeper c (suc m) s plan ≡ after 1 (or_next (cond (t.stays c (set plan c s)) (deeper (set plan c s)) (nothing 0)) (tries t deeper c m (suc s) plan))
  unfolding tries
  tries_open e = rw e refl

  pub tries_stays : t.opens c s ≡ true → t.stays c (set plan c s) ≡ true
      → tries t deeper c (suc m) s plan ≡ after 1 (or_next (deeper (set plan c s)) (tries t deeper c m (suc s) plan))
  unfolding tries
  tries_stays e f = rw (e, f) refl

  pub tries_leaves : t.opens c s ≡ true → t.stays c (set plan c s) ≡ false
      → tries t deeper c (suc m) s plan ≡ after 1 (or_next (nothing 0) (tries t deeper c m (suc s) plan))
  unfolding tries
  tries_leaves e f = rw (e, f) refl

pub tries_end : (t : Task) (deeper : List ℕ → Result) (c s : ℕ) (plan : List ℕ) → tries t deeper c 0 s plan ≡ nothing 0
unfolding tries
tries_end t deeper c s plan = refl

module _ (t : Task) (n c : ℕ) (plan : List ℕ) where
  pub search_skips : t.lays c ≡ false → search t (suc n) c plan ≡ search t n (suc c) plan
  unfolding search
  search_skips e = rw e refl

  pub search_lays : t.lays c ≡ true → search t (suc n) c plan ≡ tries t (λ laid. search t n (suc c) laid) c 32 0 plan
  unfolding search
  search_lays e = rw e refl

pub search_end : (t : Task) (c : ℕ) (plan : List ℕ) → search t 0 c plan ≡ found plan 0
unfolding search
search_end t c plan = refl

-- LIKE TASKS GIVE LIKE RESULTS, trials and all, where they agree on the plans that the search comes by
module _ (t t' : Task) where
  module _ (deeper deeper' : List ℕ → Result) (c : ℕ) (plan : List ℕ)
      (opens : (s : ℕ) → s < 32 → t.opens c s ≡ t'.opens c s)
      (stays : (s : ℕ) → s < 32 → t.opens c s ≡ true → t.stays c (set plan c s) ≡ t'.stays c (set plan c s))
      (each : (s : ℕ) → s < 32 → t.opens c s ≡ true → t.stays c (set plan c s) ≡ true → deeper (set plan c s) ≡ deeper' (set plan c s)) where
    tries_same : (m s : ℕ) → s + m ≡ 32 → tries t deeper c m s plan ≡ tries t' deeper' c m s plan
    tries_same zero s e = tries_end t deeper c s plan ∙ sym (tries_end t' deeper' c s plan)
    tries_same (suc m) s e = go (true_or_false (t.opens c s)) (tries_same m (suc s) (omega arith))
      where
        behind : t.opens c s ≡ true → (b : Bool) → t.stays c (set plan c s) ≡ b
            → cond b (deeper (set plan c s)) (nothing 0) ≡ cond b (deeper' (set plan c s)) (nothing 0)
        behind o true x = each s (omega arith) o x
        behind o false x = refl

        go : (t.opens c s ≡ true) ⊎ (t.opens c s ≡ false) → tries t deeper c m (suc s) plan ≡ tries t' deeper' c m (suc s) plan
            → tries t deeper c (suc m) s plan ≡ tries t' deeper' c (suc m) s plan
        go (inl o) rest =
            tries_open t deeper c m s plan o
            ∙ rw (behind o (t.stays c (set plan c s)) refl, rest, stays s (omega arith) o) refl
            ∙ sym (tries_open t' deeper' c m s plan (sym (opens s (omega arith)) ∙ o))
        go (inr o) rest =
            tries_closed t deeper c m s plan o ∙ rest ∙ sym (tries_closed t' deeper' c m s plan (sym (opens s (omega arith)) ∙ o))

  module _ (Inv : ℕ → List ℕ → Type 0)
      (skip : (c : ℕ) (plan : List ℕ) → c < 32 → Inv c plan → t.lays c ≡ false → Inv (suc c) plan)
      (lay : (c s : ℕ) (plan : List ℕ) → c < 32 → s < 32 → Inv c plan → t.lays c ≡ true → t.opens c s ≡ true → t.stays c (set plan c s) ≡ true
      → Inv (suc c) (set plan c s))
      (lays : (c : ℕ) → c < 32 → t.lays c ≡ t'.lays c)
      (opens : (c s : ℕ) → c < 32 → s < 32 → t.opens c s ≡ t'.opens c s)
      (stays : (c s : ℕ) (plan : List ℕ) → c < 32 → s < 32 → Inv c plan → t.lays c ≡ true → t.opens c s ≡ true
      → t.stays c (set plan c s) ≡ t'.stays c (set plan c s)) where
    pub search_same : (n c : ℕ) (plan : List ℕ) → c + n ≡ 32 → Inv c plan → search t n c plan ≡ search t' n c plan
    search_same zero c plan e i = search_end t c plan ∙ sym (search_end t' c plan)
    search_same (suc n) c plan e i = go (true_or_false (t.lays c)) (λ plan i. search_same n (suc c) plan (omega arith) i)
      where
        go : (t.lays c ≡ true) ⊎ (t.lays c ≡ false) → ((plan : List ℕ) → Inv (suc c) plan → search t n (suc c) plan ≡ search t' n (suc c) plan)
            → search t (suc n) c plan ≡ search t' (suc n) c plan
        go (inl l) ih =
            search_lays t n c plan l
            ∙ tries_same (λ laid. search t n (suc c) laid) (λ laid. search t' n (suc c) laid) c plan (λ s h. opens c s (omega arith) h)
            (λ s h o. stays c s plan (omega arith) h i l o) (λ s h o st. ih (set plan c s) (lay c s plan (omega arith) h i l o st)) 32 0 refl
            ∙ sym (search_lays t' n c plan (sym (lays c (omega arith)) ∙ l))
        go (inr l) ih = search_skips t n c plan l ∙ ih plan (skip c plan (omega arith) i l) ∙ sym (search_skips t' n c plan (sym (lays c (omega arith)) ∙ l))

-- TRIALS BEFORE TRIALS
pub after_after : (k m : ℕ) (r : Result) → after k (after m r) ≡ after (k + m) r
after_after k m (found plan n) = let e : k + (m + n) ≡ k + m + n = omega arith in rw e refl
after_after k m (nothing n) = let e : k + (m + n) ≡ k + m + n = omega arith in rw e refl

pub after_none : (r : Result) → after 0 r ≡ r
after_none (found plan n) = let e : 0 + n ≡ n = omega arith in rw e refl
after_none (nothing n) = let e : 0 + n ≡ n = omega arith in rw e refl

-- NO CALL IS LAID FROM c ON: nor from a later one on, whatever the calls before that get; and to take nothing away leaves the plan as it was
pub clear_later : {c d : ℕ} {plan : List ℕ} → c ≤ d → Clear c plan → Clear d plan
clear_later le x = record { size = x.size; none = λ e h. x.none e (omega arith) }

pub clear_set : (c s : ℕ) {d : ℕ} (plan : List ℕ) → c < d → Clear d plan → Clear d (set plan c s)
clear_set c s plan lt x =
    record {
      size = length-set plan c s ∙ x.size;
      none = λ e h. get_or-set_other plan c e s no_slot_given (λ z. omega arith) ∙ x.none e h;
    }

pub clear_away : (c : ℕ) (plan : List ℕ) → Clear c plan → set plan c no_slot_given ≡ plan
clear_away c plan x = ap (set plan c) (sym (x.none c (omega arith))) ∙ set-get_or plan c no_slot_given

-- what the plan has for a call does not matter to the trials of its slots
pub tries_set : (t : Task) (deeper : List ℕ → Result) (c v m s : ℕ) (plan : List ℕ) → tries t deeper c m s (set plan c v) ≡ tries t deeper c m s plan
tries_set t deeper c v zero s plan = tries_end t deeper c s (set plan c v) ∙ sym (tries_end t deeper c s plan)
tries_set t deeper c v (suc m) s plan = go (true_or_false (t.opens c s)) (tries_set t deeper c v m (suc s) plan)
  where
    go : (t.opens c s ≡ true) ⊎ (t.opens c s ≡ false) → tries t deeper c m (suc s) (set plan c v) ≡ tries t deeper c m (suc s) plan
        → tries t deeper c (suc m) s (set plan c v) ≡ tries t deeper c (suc m) s plan
    go (inl o) rest = tries_open t deeper c m s (set plan c v) o ∙ rw (set-set plan c v s, rest) refl ∙ sym (tries_open t deeper c m s plan o)
    go (inr o) rest = tries_closed t deeper c m s (set plan c v) o ∙ rest ∙ sym (tries_closed t deeper c m s plan o)

-- UNDER A CEILING. A search that ends with none lets the call before go on
abbrev pub goes_on? : Ended → Bool
goes_on? (full plan n) = false
goes_on? (none n) = true
goes_on? stopped = false

-- an end with n trials before it
abbrev pub later : ℕ → Ended → Ended
later n (full plan m) = full plan (n + m)
later n (none m) = none (n + m)
later n stopped = stopped

-- n trials are made, and what follows them ends under what is left
pub cut_later : (n ceiling : ℕ) (r : Result) → cut (n + ceiling) (after n r) ≡ later n (cut ceiling r)
cut_later n ceiling (found plan m) = go (true_or_false (leb m ceiling))
  where
    go : (leb m ceiling ≡ true) ⊎ (leb m ceiling ≡ false) → cut (n + ceiling) (after n (found plan m)) ≡ later n (cut ceiling (found plan m))
    go (inl l) = let h = leb-true m ceiling l in rw (l, le-leb (n + m) (n + ceiling) (omega arith)) refl
    go (inr l) = let h = leb-false m ceiling l in rw (l, lt-leb (n + m) (n + ceiling) (omega arith)) refl
cut_later n ceiling (nothing m) = go (true_or_false (leb m ceiling))
  where
    go : (leb m ceiling ≡ true) ⊎ (leb m ceiling ≡ false) → cut (n + ceiling) (after n (nothing m)) ≡ later n (cut ceiling (nothing m))
    go (inl l) = let h = leb-true m ceiling l in rw (l, le-leb (n + m) (n + ceiling) (omega arith)) refl
    go (inr l) = let h = leb-false m ceiling l in rw (l, lt-leb (n + m) (n + ceiling) (omega arith)) refl

-- more trials are needed than the ceiling
pub cut_over : (ceiling n : ℕ) (r : Result) → ceiling < n → cut ceiling (after n r) ≡ stopped
cut_over ceiling n (found plan m) h = rw (lt-leb (n + m) ceiling (omega arith)) refl
cut_over ceiling n (nothing m) h = rw (lt-leb (n + m) ceiling (omega arith)) refl

module _ (ceiling : ℕ) where
  -- the calls behind a slot end the search
  pub cut_first : (r rest : Result) (e : Ended) → e ≡ cut ceiling (after 1 r) → goes_on? e ≡ false → e ≡ cut ceiling (after 1 (or_next r rest))
  cut_first (found plan n) rest e is off = is
  cut_first (nothing n) rest e is off = go (true_or_false (leb (1 + n) ceiling))
    where
      go : (leb (1 + n) ceiling ≡ true) ⊎ (leb (1 + n) ceiling ≡ false) → e ≡ cut ceiling (after 1 (after n rest))
      go (inl l) = let x : e ≡ none (1 + n) = is ∙ rw l refl in absurd (true_false (ap goes_on? x) off)
      go (inr l) = is ∙ rw l refl ∙ sym (ap (cut ceiling) (after_after 1 n rest) ∙ cut_over ceiling (1 + n) rest (leb-false (1 + n) ceiling l))

  -- they end with none after n trials in all: the search goes on behind these
  pub cut_on : (r rest : Result) (n : ℕ) → none n ≡ cut ceiling (after 1 r) → cut ceiling (after n rest) ≡ cut ceiling (after 1 (or_next r rest))
  cut_on (found plan m) rest n is = absurd (never (leb (1 + m) ceiling) is)
    where
      never : (b : Bool) → none n ≡ cond b (full plan (1 + m)) stopped → ⊥
      never true e = true_false (sym (ap goes_on? e)) refl
      never false e = true_false (sym (ap goes_on? e)) refl
  cut_on (nothing m) rest n is = go (true_or_false (leb (1 + m) ceiling))
    where
      go : (leb (1 + m) ceiling ≡ true) ⊎ (leb (1 + m) ceiling ≡ false) → cut ceiling (after n rest) ≡ cut ceiling (after 1 (after m rest))
      go (inl l) =
          let e : none n ≡ none (1 + m) = is ∙ rw l refl in
          let z : n ≡ 1 + m = cc in
          rw z (sym (ap (cut ceiling) (after_after 1 m rest)))
      go (inr l) = let e : none n ≡ stopped = is ∙ rw l refl in absurd (true_false (sym (ap goes_on? e)) refl)
