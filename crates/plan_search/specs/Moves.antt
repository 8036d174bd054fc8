-- THE SEARCH AS A MACHINE (SCOPE 5.9, 5.10), for who asks whether the count is that of the search as it is told: one move for each thing that the order says it does, and a
-- count that goes up where a slot is laid. Laws.Moves shows that however the machine goes it ends as `search_all` says, with the same plan and count.
use Rattle.std.specs.Prelude.{◌≡◌, true, false, List, ℕ, suc, ◌<◌, set}
use Rattle.model.specs.Board.{no_slot_given}
use Rattle.plan_model.specs.Plans.{slot_in}
use Rattle.plan_search.specs.Search.{Result, found, nothing, Task}
use Rattle.plan_search.specs.First.{no_plan}

-- WHERE IT STANDS, with the plan so far and the trials: slot s of call c is next; call c has no slot left, and a call before it is looked for; or it has ended, with a plan
-- or with none
pub data Position : Type 0 where
  trying : (c s : ℕ) → List ℕ → ℕ → Position
  backtracking : (c : ℕ) → List ℕ → ℕ → Position
  complete : List ℕ → ℕ → Position
  exhausted : ℕ → Position

-- ONE MOVE (SCOPE 5.9). The two that lay a slot, and no other, raise the count (5.10)
pub data Move (t : Task) : Position → Position → Type 0 where
  -- every call is passed
  finishes : {plan : List ℕ} {k : ℕ} → Move t (trying 32 0 plan k) (complete plan k)
  -- a call that gets no slot is skipped
  skips_call : {c k : ℕ} {plan : List ℕ} → c < 32 → t.lays c ≡ false → Move t (trying c 0 plan k) (trying (suc c) 0 plan k)
  -- a slot that is not open is passed over
  skips_slot : {c s k : ℕ} {plan : List ℕ} → c < 32 → s < 32 → t.lays c ≡ true → t.opens c s ≡ false
      → Move t (trying c s plan k) (trying c (suc s) plan k)
  -- an open slot is laid, which is a trial, and stays: on to the next call
  lays_slot : {c s k : ℕ} {plan : List ℕ} → c < 32 → s < 32 → t.lays c ≡ true → t.opens c s ≡ true → t.stays c (set plan c s) ≡ true
      → Move t (trying c s plan k) (trying (suc c) 0 (set plan c s) (suc k))
  -- or it is laid, which is a trial, and does not stay: on to the next slot
  lays_in_vain : {c s k : ℕ} {plan : List ℕ} → c < 32 → s < 32 → t.lays c ≡ true → t.opens c s ≡ true → t.stays c (set plan c s) ≡ false
      → Move t (trying c s plan k) (trying c (suc s) plan (suc k))
  -- no slot is left: back to the call before
  runs_out : {c k : ℕ} {plan : List ℕ} → c < 32 → t.lays c ≡ true → Move t (trying c 32 plan k) (backtracking c plan k)
  -- if that call was laid its slot is taken away and the next one is tried,
  retries : {c k : ℕ} {plan : List ℕ} → t.lays c ≡ true
      → Move t (backtracking (suc c) plan k) (trying c (suc (slot_in plan c)) (set plan c no_slot_given) k)
  -- if it was skipped it is skipped again,
  skips_back : {c k : ℕ} {plan : List ℕ} → t.lays c ≡ false → Move t (backtracking (suc c) plan k) (backtracking c plan k)
  -- and if there is none before, there is no plan
  gives_up : {k : ℕ} {plan : List ℕ} → Move t (backtracking 0 plan k) (exhausted k)

-- one position LEADS to another by moves, or by none
pub data Leads (t : Task) : Position → Position → Type 0 where
  rests : {x : Position} → Leads t x x
  moves : {x y z : Position} → Move t x y → Leads t y z → Leads t x z

-- it begins with the first slot of the first call and no call laid, and has ended where there is no move
abbrev pub search_start : Position
search_start = trying 0 0 no_plan 0

abbrev pub Final : Task → Position → Type 0
Final t x = (y : Position) → Move t x y → ⊥

-- the end that goes with what a search comes to
abbrev pub end_of : Result → Position
end_of (found plan n) = complete plan n
end_of (nothing n) = exhausted n
