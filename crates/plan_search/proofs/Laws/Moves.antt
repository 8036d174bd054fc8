-- THE MACHINE ENDS AS THE SEARCH SAYS: with its plan or with none, and with its count (SCOPE 5.10). Assumes nothing.
use Rattle.std.specs.Prelude.{◌≡◌, Bool, true, false, cond, List, ◌⊎◌, ℕ, zero, suc, ◌+◌, ◌<◌, set, ltb}
use Rattle.std.proofs.Math.Path.{refl}
use Rattle.std.proofs.Common.{sym, subst, ◌∙◌, inl, inr, get_or-set_same, set-set, lt-ltb}
use native.Mathlib.Omega.{arith}
use Rattle.tables.specs.Laws.Facts.{true_false, true_or_false}
use Rattle.model.specs.Board.{no_slot_given}
use Rattle.plan_model.specs.Plans.{slot_in}
use Rattle.plan_search.specs.Search.{Result, found, nothing, after, or_next, Task, tries, search}
use Rattle.plan_search.specs.First.{no_plan, Clear, search_all}
use Rattle.plan_search.specs.Moves.{Position, trying, backtracking, complete, exhausted, Move, finishes, skips_call, skips_slot, lays_slot, lays_in_vain, runs_out, retries, skips_back, gives_up, Leads, rests, moves, search_start, Final, end_of}
use Rattle.plan_search.proofs.Laws.Search.{tries_end, tries_closed, tries_stays, tries_leaves, search_end, search_skips, search_lays, clear_later, clear_set, clear_away}
use Rattle.plan_search.proofs.Laws.Full.{clear_first}

joins : {t : Task} {x y z : Position} → Leads t x y → Leads t y z → Leads t x z
joins rests g = g
joins (moves m f) g = moves m (joins f g)

-- A RESULT TELLS where the machine comes to from position x, with k trials before: to its end, or back from call c with the plan as it was there
abbrev ComesTo : Task → Position → ℕ → List ℕ → ℕ → Result → Type 0
ComesTo t x c plan k (found q n) = Leads t x (complete q (k + n))
ComesTo t x c plan k (nothing n) = Leads t x (backtracking c plan (k + n))

module _ (t : Task) where
  after_moves : {x y : Position} (c : ℕ) (plan : List ℕ) (k n : ℕ) (r : Result) → Leads t x y → ComesTo t y c plan (k + n) r → ComesTo t x c plan k (after n r)
  after_moves c plan k n (found q m) f g = let e : k + n + m ≡ k + (n + m) = omega arith in rw (← e) (joins f g)
  after_moves c plan k n (nothing m) f g = let e : k + n + m ≡ k + (n + m) = omega arith in rw (← e) (joins f g)

  after_move : {x y : Position} (c : ℕ) (plan : List ℕ) (k : ℕ) (r : Result) → Move t x y → ComesTo t y c plan k r → ComesTo t x c plan k r
  after_move c plan k (found q m) move f = moves move f
  after_move c plan k (nothing m) move f = moves move f

  module _ (n c : ℕ) (hc : c < 32) (plan : List ℕ) (clear : Clear c plan) (lays : t.lays c ≡ true)
      (behind : (laid : List ℕ) (k : ℕ) → Clear (suc c) laid → ComesTo t (trying (suc c) 0 laid k) (suc c) laid k (search t n (suc c) laid)) where
    abbrev deeper : List ℕ → Result
    deeper = λ laid. search t n (suc c) laid

    -- a slot that is taken away leaves the plan as it was
    taken_away : (s : ℕ) → set (set plan c s) c no_slot_given ≡ plan
    taken_away s = set-set plan c s no_slot_given ∙ clear_away c plan clear

    retry : (s k : ℕ) → Move t (backtracking (suc c) (set plan c s) k) (trying c (suc s) plan k)
    retry s k =
        subst (λ (l : List ℕ). Move t (backtracking (suc c) (set plan c s) k) (trying c (suc s) l k)) (taken_away s)
        (subst (λ (v : ℕ). Move t (backtracking (suc c) (set plan c s) k) (trying c (suc v) (set (set plan c s) c no_slot_given) k))
        (get_or-set_same plan c s no_slot_given (rw clear.size hc)) (retries lays))

    -- a slot that stays, and the calls behind it
    or_next_lem : (s k : ℕ) (r rest : Result) → Move t (trying c s plan k) (trying (suc c) 0 (set plan c s) (suc k))
        → ComesTo t (trying (suc c) 0 (set plan c s) (suc k)) (suc c) (set plan c s) (suc k) r
        → ((j : ℕ) → ComesTo t (trying c (suc s) plan j) c plan j rest) → ComesTo t (trying c s plan k) c plan k (after 1 (or_next r rest))
    or_next_lem s k (found q m) rest move f g = let e : suc k + m ≡ k + (1 + m) = omega arith in rw (← e) (moves move f)
    or_next_lem s k (nothing m) rest move f g =
        let e : suc k + m ≡ k + 1 + m = omega arith in
        let back = moves move (joins f (moves (retry s (suc k + m)) rests)) in
        after_moves c plan k 1 (after m rest) rests
        (after_moves {y = trying c (suc s) plan (suc k + m)} c plan (k + 1) m rest back
        (subst (λ (v : ℕ). ComesTo t (trying c (suc s) plan (suc k + m)) c plan v rest) e (g (suc k + m))))

    tries_lead : (m s k : ℕ) → s + m ≡ 32 → ComesTo t (trying c s plan k) c plan k (tries t deeper c m s plan)
    tries_lead zero s k e =
        let z : s ≡ 32 = omega arith in
        let y : k + 0 ≡ k = omega arith in
        rw (tries_end t deeper c s plan, z, y) (moves (runs_out hc lays) rests)
    tries_lead (suc m) s k e =
        go (true_or_false (t.opens c s)) (true_or_false (t.stays c (set plan c s))) (λ j. tries_lead m (suc s) j (omega arith))
      where
        go : (t.opens c s ≡ true) ⊎ (t.opens c s ≡ false) → (t.stays c (set plan c s) ≡ true) ⊎ (t.stays c (set plan c s) ≡ false)
            → ((j : ℕ) → ComesTo t (trying c (suc s) plan j) c plan j (tries t deeper c m (suc s) plan))
            → ComesTo t (trying c s plan k) c plan k (tries t deeper c (suc m) s plan)
        go (inr o) st rest =
            rw (tries_closed t deeper c m s plan o)
            (after_move c plan k (tries t deeper c m (suc s) plan) (skips_slot {k = k} hc (omega arith) lays o) (rest k))
        go (inl o) (inl st) rest =
            rw (tries_stays t deeper c m s plan o st)
            (or_next_lem s k (deeper (set plan c s)) (tries t deeper c m (suc s) plan) (lays_slot hc (omega arith) lays o st)
            (behind (set plan c s) (suc k) (clear_set c s plan (omega arith) (clear_later (omega arith) clear))) rest)
        go (inl o) (inr st) rest =
            let z : suc k ≡ k + 1 + 0 = omega arith in
            rw (tries_leaves t deeper c m s plan o st)
            (after_moves {y = trying c (suc s) plan (suc k)} c plan k 1 (after 0 (tries t deeper c m (suc s) plan))
            (moves (lays_in_vain {k = k} hc (omega arith) lays o st) rests)
            (after_moves {y = trying c (suc s) plan (suc k)} c plan (k + 1) 0 (tries t deeper c m (suc s) plan) rests
            (subst (λ (v : ℕ). ComesTo t (trying c (suc s) plan (suc k)) c plan v (tries t deeper c m (suc s) plan)) z (rest (suc k)))))

  search_leads : (n c k : ℕ) (plan : List ℕ) → c + n ≡ 32 → Clear c plan → ComesTo t (trying c 0 plan k) c plan k (search t n c plan)
  search_leads zero c k plan e x =
      let z : c ≡ 32 = omega arith in
      let y : k + 0 ≡ k = omega arith in
      rw (search_end t c plan, z, y) (moves finishes rests)
  search_leads (suc n) c k plan e x = go (true_or_false (t.lays c)) (λ j laid y. search_leads n (suc c) j laid (omega arith) y)
    where
      go : (t.lays c ≡ true) ⊎ (t.lays c ≡ false)
          → ((j : ℕ) (laid : List ℕ) → Clear (suc c) laid → ComesTo t (trying (suc c) 0 laid j) (suc c) laid j (search t n (suc c) laid))
          → ComesTo t (trying c 0 plan k) c plan k (search t (suc n) c plan)
      go (inl l) ih = rw (search_lays t n c plan l) (tries_lead n c (omega arith) plan x l (λ laid j y. ih j laid y) 32 0 k refl)
      go (inr l) ih =
          rw (search_skips t n c plan l)
          (over (search t n (suc c) plan) (ih k plan (clear_later (omega arith) x)))
        where
          over : (r : Result) → ComesTo t (trying (suc c) 0 plan k) (suc c) plan k r → ComesTo t (trying c 0 plan k) c plan k r
          over (found q m) f = moves (skips_call {c = c} (omega arith) l) f
          over (nothing m) f = moves (skips_call {c = c} (omega arith) l) (joins f (moves (skips_back l) rests))

  -- THE MACHINE COMES TO THE END that the search says, from the first call on
  pub start_leads : Leads t search_start (end_of (search_all t))
  unfolding search_all
  start_leads =
      go (search t 32 0 no_plan)
      (search_leads 32 0 0 no_plan refl clear_first)
    where
      go : (r : Result) → ComesTo t search_start 0 no_plan 0 r → Leads t search_start (end_of r)
      go (found q n) f = let z : 0 + n ≡ n = omega arith in rw z at f
      go (nothing n) f = let z : 0 + n ≡ n = omega arith in joins (rw z at f) (moves gives_up rests)

-- A POSITION HAS AT MOST ONE MOVE: where it goes is a function of the position
moved : Task → Position → Position
moved t (trying c s plan k) =
    cond (ltb c 32)
    (cond (t.lays c)
    (cond (ltb s 32)
    (cond (t.opens c s) (cond (t.stays c (set plan c s)) (trying (suc c) 0 (set plan c s) (suc k)) (trying c (suc s) plan (suc k))) (trying c (suc s) plan k))
    (backtracking c plan k))
    (trying (suc c) 0 plan k))
    (complete plan k)
moved t (backtracking zero plan k) = exhausted k
moved t (backtracking (suc c) plan k) = cond (t.lays c) (trying c (suc (slot_in plan c)) (set plan c no_slot_given) k) (backtracking c plan k)
moved t (complete plan k) = complete plan k
moved t (exhausted k) = exhausted k

one_move : {t : Task} {x y : Position} → Move t x y → moved t x ≡ y
unfolding moved
one_move finishes = refl
one_move (skips_call {c = c} hc l) = rw (lt-ltb c 32 hc, l) refl
one_move (skips_slot {c = c} {s = s} hc hs l o) = rw (lt-ltb c 32 hc, l, lt-ltb s 32 hs, o) refl
one_move (lays_slot {c = c} {s = s} hc hs l o st) = rw (lt-ltb c 32 hc, l, lt-ltb s 32 hs, o, st) refl
one_move (lays_in_vain {c = c} {s = s} hc hs l o st) = rw (lt-ltb c 32 hc, l, lt-ltb s 32 hs, o, st) refl
one_move (runs_out {c = c} hc l) = rw (lt-ltb c 32 hc, l) refl
one_move (retries l) = rw l refl
one_move (skips_back l) = rw l refl
one_move gives_up = refl

-- so two ways from one position to an end come to the same
one_end : {t : Task} {x y z : Position} → Leads t x y → Leads t x z → Final t y → Final t z → y ≡ z
one_end rests rests e f = refl
one_end rests (moves m g) e f = absurd (e _ m)
one_end (moves m g) rests e f = absurd (f _ m)
one_end {t} {z = z} (moves m g) (moves m' g') e f =
    let same = sym (one_move m) ∙ one_move m' in
    one_end {z = z} g (subst (λ (p : Position). Leads t p z) (sym same) g') e f

-- a plan, and no plan, are ends
at_end? : Position → Bool
at_end? (trying c s plan k) = false
at_end? (backtracking c plan k) = false
at_end? (complete plan k) = true
at_end? (exhausted k) = true

still_moving : {t : Task} {x y : Position} → Move t x y → at_end? x ≡ false
unfolding at_end?
still_moving finishes = refl
still_moving (skips_call hc l) = refl
still_moving (skips_slot hc hs l o) = refl
still_moving (lays_slot hc hs l o st) = refl
still_moving (lays_in_vain hc hs l o st) = refl
still_moving (runs_out hc l) = refl
still_moving (retries l) = refl
still_moving (skips_back l) = refl
still_moving gives_up = refl

pub end_final : (t : Task) (r : Result) → Final t (end_of r)
unfolding at_end?
end_final t (found q n) y m = true_false refl (still_moving m)
end_final t (nothing n) y m = true_false refl (still_moving m)

-- HOWEVER THE MACHINE COMES TO AN END from the first call on, it is the one that the search says
pub only_end : (t : Task) (x : Position) → Leads t search_start x → Final t x → x ≡ end_of (search_all t)
only_end t x f e = one_end f (start_leads t) e (end_final t (search_all t))
