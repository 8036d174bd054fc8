-- THE EQUATION SAYS WHAT THE ANSWER MEANS, on a state that is a ledger's. Assumes nothing.
use Rattle.std.specs.Prelude.{◌≡◌, refl, Bool, true, false, cond, ℕ, suc, leb, Ok, Err}
use Rattle.std.proofs.Common.{sym, ap, subst, ◌∙◌, arith, leb-true, leb-false}
use Rattle.layout.specs.Memory.{State, lent_of}
use Rattle.model.specs.Board.{Board, Shape}
use Rattle.model.specs.Ledger.{Ledger, LedgerShape}
use Rattle.model.specs.Representation.{Represents}
use Rattle.model.specs.Promise.{values_at}
use Rattle.model.specs.Refusals.{first_of, number_of, AnsweredBy}
use Rattle.model.specs.Questions.{board_conditions, board_checks}
use Rattle.model.proofs.Laws.Heads.{no_calls}
use Rattle.model.specs.declared.refusal.Refusal.{Refusal}
use Rattle.plan_search.specs.declared.answer.FirstPlan.{FirstPlan}
use Rattle.std.specs.Prelude as answer
use Rattle.model.proofs.Laws.Refusals.{answered_number, answered_with, answered_values}
use Rattle.plan_search.specs.Search.{Result, found, nothing}
use Rattle.plan_search.specs.First.{no_plan, board_task, search_all, trials, Ended, full, none, stopped, cut, ended_answer, first_shown, first_values, first_bytes, FirstMeans, FirstAnswered, FirstPromise}
use Rattle.plan_search.proofs.Laws.Full.{found_full, found_size, found_blank, found_first, nothing_none}
use Rattle.plan_search.proofs.Laws.Memory.{search_board}

-- ON A BOARD: the search, cut at the ceiling, by how it comes out
module _ (B : Board) (shape : Shape B) (ceiling : ℕ) where
  abbrev Means : Ended → Type 0
  Means e = FirstMeans B ceiling (Ok (ended_answer ceiling e))

  first_means : Means (cut ceiling (search_all (board_task B)))
  first_means = go (search_all (board_task B)) refl
    where
      go : (r : Result) → search_all (board_task B) ≡ r → Means (cut ceiling r)
      go (found q n) e = by (leb n ceiling) refl
        where
          by : (b : Bool) → leb n ceiling ≡ b → Means (cond b (full q n) stopped)
          by true l =
              record {
                count = sym (ap trials e);
                within = leb-true n ceiling l;
                size = found_size B shape q n e;
                blank = found_blank B shape q n e;
                fulfils = found_full B shape q n e;
                earliest = λ P f b. absurd (found_first B shape q n e P f b);
              }
          by false l = record { count = refl; more = rw e (leb-false n ceiling l) }
      go (nothing n) e = by (leb n ceiling) refl
        where
          by : (b : Bool) → leb n ceiling ≡ b → Means (cond b (none n) stopped)
          by true l = record { count = sym (ap trials e); within = leb-true n ceiling l; never = λ P f. absurd (nothing_none B shape n e P f) }
          by false l = record { count = refl; more = rw e (leb-false n ceiling l) }

-- THE PROMISE, of each answer that the search gives
module _ (s : State) (ceiling : ℕ) (given : answer.Result FirstPlan Refusal) (by : AnsweredBy (first_of (board_checks s)) (first_shown s ceiling) given) where
  module _ (L : Ledger) (shape : LedgerShape L) (rep : Represents L s) where
    -- the checks off the value are the conditions off the ledger
    board_checks_lem : first_of (board_checks s) ≡ first_of (board_conditions L (lent_of s))
    board_checks_lem = let e = no_calls L.board shape.board s.value.heads rep.stored.headed in rw e refl

    -- and where none holds the answer is that of the search on the board
    answer_searched : first_of (board_conditions L (lent_of s)) ≡ 0 → given ≡ Ok (ended_answer ceiling (cut ceiling (search_all (board_task L.board))))
    answer_searched z =
        answered_with (first_of (board_checks s)) (first_shown s ceiling) given by (board_checks_lem ∙ z)
        ∙ ap (λ (r : Result). let a : answer.Result FirstPlan Refusal = Ok (ended_answer ceiling (cut ceiling r)) in a) (search_board L shape s rep)

    refused_bytes : (g : answer.Result FirstPlan Refusal) (n : ℕ) → number_of g ≡ suc n → first_bytes g ≡ no_plan
    refused_bytes (Ok a) n e = absurd (omega arith)
    refused_bytes (Err f) n e = refl

    first_answered : FirstAnswered L s ceiling given
    first_answered =
        record {
          number = answered_number (first_of (board_checks s)) (first_shown s ceiling) given by ∙ board_checks_lem;
          values = answered_values first_values (λ f. refl) (first_of (board_checks s)) (first_shown s ceiling) given by
              ∙ ap (λ (r : Result). values_at (first_of (board_checks s)) (first_values (Ok (ended_answer ceiling (cut ceiling r))))) (search_board L shape s rep)
              ∙ ap (λ (n : ℕ). values_at n (first_values (Ok (ended_answer ceiling (cut ceiling (search_all (board_task L.board))))))) board_checks_lem;
          refused = λ n z. refused_bytes given n (answered_number (first_of (board_checks s)) (first_shown s ceiling) given by ∙ board_checks_lem ∙ z);
          searched = answer_searched;
          means = λ z.
              subst (λ (a : answer.Result FirstPlan Refusal). FirstMeans L.board ceiling a) (sym (answer_searched z))
              (first_means L.board shape.board ceiling);
        }

  pub first_promise : FirstPromise s ceiling given
  first_promise = record { equation = by; answered = first_answered }
