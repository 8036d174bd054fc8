-- THE QUESTION FOR THE FIRST FULL PLAN (SCOPE 5.9, 5.10, order 8): an equation that holds whatever the memory holds, and what the answer means on a state that is a
-- ledger's. Laws.First proves that the second follows from the first.
use Rattle.std.specs.Prelude.{◌≡◌, not, ◌&&◌, cond, List, [], ◌∷◌, ℕ, zero, suc, ◌<◌, ◌≤◌, length, replicate, eqb, ltb, leb, Ok, Err}
use Rattle.layout.specs.Memory.{State, lent_of}
use Rattle.model.specs.Board.{Board, live?, no_slot_given, FullPlan}
use Rattle.model.specs.Filter.{in?, open_of}
use Rattle.model.specs.Report.{open?}
use Rattle.model.specs.Ledger.{Ledger, LedgerShape}
use Rattle.model.specs.Representation.{Represents}
use Rattle.model.specs.Promise.{values_at}
use Rattle.model.specs.Refusals.{first_of, number_of, AnsweredBy}
use Rattle.model.specs.Questions.{board_conditions, board_checks}
use Rattle.plan_model.specs.Plans.{plan_size, slot_in, rules_of, rules_in, slots_on_in}
use Rattle.plan_search.specs.declared.answer.FirstPlan.{FirstPlan}
use Rattle.plan_search.specs.declared.answer.FirstPlan.TheVariants as first
use Rattle.model.specs.declared.refusal.Refusal.{Refusal}
use Rattle.std.specs.Prelude as answer
use Rattle.plan_search.specs.Search.{Result, found, nothing, Task, search, stays?}

-- the plan in which no call is laid (SCOPE 1.24)
abbrev pub no_plan : List ℕ
no_plan = replicate plan_size no_slot_given

-- no call is laid from c on
pub record Clear (c : ℕ) (plan : List ℕ) : Type 0 where
  pub size : length plan ≡ plan_size
  pub none : (d : ℕ) → c ≤ d → slot_in plan d ≡ no_slot_given

-- THE SEARCH ON A BOARD (SCOPE 5.9): the calls of the board that are not cancelled, their open slots, and the rules in force
abbrev pub board_task : Board → Task
board_task B = record { lays = λ c. ltb c (length B.counts) && live? B c; opens = in? (open_of B); stays = λ c plan. stays? (rules_of B) plan }

-- the same off the value and the bytes, whatever they hold: a call is laid where it has slots
abbrev pub memory_task : State → Task
memory_task s = record { lays = λ c. not (eqb (slots_on_in s c) 0); opens = open? s.slots; stays = λ c plan. stays? (rules_in s) plan }

-- from the first call on, with none laid
unfoldable pub search_all : Task → Result
search_all t = search t plan_size 0 no_plan

-- the trials that a search needs (SCOPE 5.10)
abbrev pub trials : Result → ℕ
trials (found plan n) = n
trials (nothing n) = n

-- UNDER A CEILING (SCOPE 5.10) a search ends with a full plan, with none, or is stopped, where it needs more trials than that
pub data Ended : Type 0 where
  full : List ℕ → ℕ → Ended
  none : ℕ → Ended
  stopped : Ended

abbrev pub cut : ℕ → Result → Ended
cut ceiling (found plan n) = cond (leb n ceiling) (full plan n) stopped
cut ceiling (nothing n) = cond (leb n ceiling) (none n) stopped

-- what a search that ended so answers; the count of one that was stopped is the ceiling
abbrev pub ended_answer : ℕ → Ended → FirstPlan
ended_answer ceiling (full plan n) = first.Found n plan
ended_answer ceiling (none n) = first.Nothing n
ended_answer ceiling stopped = first.Stopped ceiling

-- off the value and the bytes it is the search's, cut at the ceiling, once 1 and 6 are checked
abbrev pub first_shown : State → ℕ → FirstPlan
first_shown s ceiling = ended_answer ceiling (cut ceiling (search_all (memory_task s)))

-- THE VALUES of the answer (SCOPE 10.5): how the search ended, 1 with a plan, 0 with none and 2 at the ceiling, and the count; the plan's bytes stand beside them
abbrev pub first_values : answer.Result FirstPlan Refusal → List ℕ
first_values (Ok (first.Found n plan)) = 1 ∷ n ∷ []
first_values (Ok (first.Nothing n)) = 0 ∷ n ∷ []
first_values (Ok (first.Stopped n)) = 2 ∷ n ∷ []
first_values (Err e) = []

-- those bytes: 255 throughout where no plan is found
abbrev pub first_bytes : answer.Result FirstPlan Refusal → List ℕ
first_bytes (Ok (first.Found n plan)) = plan
first_bytes (Ok (first.Nothing n)) = no_plan
first_bytes (Ok (first.Stopped n)) = no_plan
first_bytes (Err e) = no_plan

-- plan P comes BEFORE plan Q among the first n calls: at the first of them where they differ it has the lower slot
pub record Before (n : ℕ) (P Q : ℕ → ℕ) : Type 0 where
  pub call : ℕ
  pub there : call < n
  pub lower : P call < Q call
  pub same : (c : ℕ) → c < call → P c ≡ Q c

-- FOUND (SCOPE 5.9) after n trials: a full plan of 32 bytes, 255 for each call that gets no slot, and no full plan comes before it
pub record FoundFirst (B : Board) (ceiling : ℕ) (plan : List ℕ) (n : ℕ) : Type 0 where
  pub count : n ≡ trials (search_all (board_task B))
  pub within : n ≤ ceiling
  pub size : length plan ≡ plan_size
  pub blank : (c : ℕ) → length B.counts ≤ c → slot_in plan c ≡ no_slot_given
  pub fulfils : FullPlan B (slot_in plan)
  pub earliest : (P : ℕ → ℕ) → FullPlan B P → Before (length B.counts) P (slot_in plan) → ⊥

-- NONE after n trials: there is no full plan
pub record FoundNone (B : Board) (ceiling : ℕ) (n : ℕ) : Type 0 where
  pub count : n ≡ trials (search_all (board_task B))
  pub within : n ≤ ceiling
  pub never : (P : ℕ → ℕ) → FullPlan B P → ⊥

-- STOPPED (SCOPE 5.10): the search needs more trials than the ceiling, which is the count here
pub record StoppedShort (B : Board) (ceiling : ℕ) (n : ℕ) : Type 0 where
  pub count : n ≡ ceiling
  pub more : ceiling < trials (search_all (board_task B))

-- what the answer says of the board
abbrev pub FirstMeans : Board → ℕ → answer.Result FirstPlan Refusal → Type 0
FirstMeans B ceiling (Ok (first.Found n plan)) = FoundFirst B ceiling plan n
FirstMeans B ceiling (Ok (first.Nothing n)) = FoundNone B ceiling n
FirstMeans B ceiling (Ok (first.Stopped n)) = StoppedShort B ceiling n
FirstMeans B ceiling (Err e) = ⊥

pub record FirstAnswered (L : Ledger) (s : State) (ceiling : ℕ) (given : answer.Result FirstPlan Refusal) : Type 0 where
  pub number : number_of given ≡ first_of (board_conditions L (lent_of s))
  pub values : first_values given
      ≡ values_at (first_of (board_conditions L (lent_of s))) (first_values (Ok (ended_answer ceiling (cut ceiling (search_all (board_task L.board))))))
  -- a refusal has no plan
  pub refused : (n : ℕ) → first_of (board_conditions L (lent_of s)) ≡ suc n → first_bytes given ≡ no_plan
  -- the count and every byte, off the board alone
  pub searched : first_of (board_conditions L (lent_of s)) ≡ 0 → given ≡ Ok (ended_answer ceiling (cut ceiling (search_all (board_task L.board))))
  pub means : first_of (board_conditions L (lent_of s)) ≡ 0 → FirstMeans L.board ceiling given

pub record FirstPromise (s : State) (ceiling : ℕ) (given : answer.Result FirstPlan Refusal) : Type 0 where
  pub equation : AnsweredBy (first_of (board_checks s)) (first_shown s ceiling) given
  pub answered : (L : Ledger) → LedgerShape L → Represents L s → FirstAnswered L s ceiling given
