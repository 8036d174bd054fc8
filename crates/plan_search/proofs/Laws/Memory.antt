-- ON A STATE THAT IS A LEDGER'S the search off the memory is the search on the board, trials and all. Assumes nothing.
use Rattle.std.specs.Prelude.{◌≡◌, true, false, ◌&&◌, ◌||◌, cond, List, length, get_or, eqb}
use Rattle.std.proofs.Math.Path.{refl, ap}
use Rattle.std.proofs.Common.{◌∙◌, ⊎_elim, arith, eqb→eq, lt-ltb, le-ltb, ne_eqb}
use Rattle.std.proofs.Math.Bool.{Bool, not}
use Prim.Native.Nat.{ℕ, ◌<◌}
use Rattle.std.proofs.Math.ListN.{get_or-eq_default}
use Rattle.tables.specs.Laws.Facts.{lt_or_le}
use Rattle.layout.specs.Places.{cause_of}
use Rattle.layout.specs.Memory.{State}
use Rattle.model.specs.Board.{Board, Shape, slots_on, cancelled_on?}
use Rattle.model.specs.Tests.{some?, every?}
use Rattle.model.specs.Ledger.{Ledger, LedgerShape}
use Rattle.model.specs.Representation.{Represents}
use Rattle.model.specs.Filter.{in?, open_of}
use Rattle.model.specs.Report.{open?}
use Rattle.model.proofs.Laws.Filter.{found_viable}
use Rattle.model.proofs.Laws.Tests.{same_test, →eqb}
use Rattle.model.proofs.Laws.Search.{some_same, every_same}
use Rattle.plan_model.specs.Plans.{RulesRead, rules_of, rules_in, fitted?}
use Rattle.plan_model.proofs.Laws.Memory.{SameRead, off_same, fitted_same, same_read, slots_on_held}
use Rattle.plan_search.specs.Search.{laid?, due?, stays?}
use Rattle.plan_search.specs.First.{no_plan, board_task, memory_task, search_all}
use Rattle.plan_search.proofs.Laws.Search.{search_same}

-- RULES READ ALIKE are due alike, and let the same slots stay
module _ (R Q : RulesRead) (plan : List ℕ) where
  due_same : (p : ℕ) → SameRead R Q p → due? R plan p ≡ due? Q plan p
  unfolding due?
  due_same p same =
      let f : ℕ → Bool = λ k. laid? plan (R.call p k) in
      let g : ℕ → Bool = λ k. laid? plan (Q.call p k) in
      let f' : ℕ → Bool = λ k. R.off (R.call p k) || laid? plan (R.call p k) in
      let g' : ℕ → Bool = λ k. Q.off (Q.call p k) || laid? plan (Q.call p k) in
      let one = ap (λ (n : ℕ). some? n f) same.columns ∙ some_same (Q.columns p) f g (λ k h. ap (laid? plan) (same.calls k h)) in
      let each = ap (λ (n : ℕ). every? n f') same.columns
      ∙ every_same (Q.columns p) f' g' (λ k h. rw (off_same R Q plan p same k h, same.calls k h) refl) in
      rw (one, each) refl

  pub stays_same : ((p : ℕ) → p < 64 → SameRead R Q p) → stays? R plan ≡ stays? Q plan
  unfolding stays?
  stays_same same =
      every_same 64 (λ p. not (due? R plan p) || fitted? R plan p) (λ p. not (due? Q plan p) || fitted? Q plan p)
      (λ p h. let due = due_same p (same p h) in let fitted = fitted_same R Q plan p (same p h) in rw (due, fitted) refl)

-- A CALL IS LAID WHERE IT HAS SLOTS: it is one of the board's and not cancelled
slots_lays : (B : Board) → Shape B → (c : ℕ) → not (eqb (slots_on B c) 0) ≡ (board_task B).lays c
slots_lays B shape c =
    ⊎_elim (λ h. rw (lt-ltb c (length B.counts) h) (inside (cancelled_on? B c) (get_or B.counts c 0) (shape.counts c h).0))
    (λ h. rw (le-ltb c (length B.counts) h, get_or-eq_default B.counts 0 h) (outside (cancelled_on? B c))) (lt_or_le c (length B.counts))
  where
    inside : (off : Bool) (n : ℕ) → 0 < n → not (eqb (cond off 0 n) 0) ≡ (true && not off)
    inside true n h = refl
    inside false n h = rw (ne_eqb n 0 (λ e. omega arith)) refl

    outside : (off : Bool) → not (eqb (cond off 0 0) 0) ≡ (false && not off)
    outside true = refl
    outside false = refl

module _ (L : Ledger) (shape : LedgerShape L) (s : State) (rep : Represents L s) where
  lays_same : (c : ℕ) → (memory_task s).lays c ≡ (board_task L.board).lays c
  lays_same c = ap (λ (n : ℕ). not (eqb n 0)) (slots_on_held L shape s rep c) ∙ slots_lays L.board shape.board c

  opens_same : (c t : ℕ) → c < 32 → t < 32 → (memory_task s).opens c t ≡ (board_task L.board).opens c t
  opens_same c t hc ht =
      same_test (open? s.slots c t) (in? (open_of L.board) c t)
      (λ x. (found_viable L.board c t).1 ((rep.stored.viable c t hc ht).0 (eqb→eq (cause_of s.slots c t) 255 x)))
      (λ x. →eqb (cause_of s.slots c t) 255 ((rep.stored.viable c t hc ht).1 ((found_viable L.board c t).0 x)))

  -- THE SEARCH OFF THE MEMORY IS THE SEARCH ON THE BOARD
  pub search_board : search_all (memory_task s) ≡ search_all (board_task L.board)
  unfolding search_all
  search_board =
      search_same (memory_task s) (board_task L.board) (λ c plan. Unit {0}) (λ c plan h i l. tt) (λ c v plan h hv i l o st. tt) (λ c h. lays_same c) opens_same
      (λ c v plan h hv i l o. stays_same (rules_in s) (rules_of L.board) _ (same_read L shape s rep)) 32 0 no_plan refl tt
