-- WHAT THE QUESTION'S FUNCTIONS SHOW of the answer, to meet its promise: the search by the tables is the search off the memory, the answer is what it ended with, and
-- the first of the checks that holds is the refusal. Assumes nothing.
use Rattle.std.specs.Prelude.{◌≡◌, refl, List, ◌≢◌, ℕ, ◌+◌, ◌-◌, ◌<◌, min, length, get_or, Ok, Err}
use Rattle.std.proofs.Common.{sym, ap, ◌∙◌, arith, ne_eqb}
use Rattle.layout.specs.Memory.{State, lent_of}
use Rattle.layout.specs.Sizes.{rows_length, killers_length, slots_length}
use Rattle.model.specs.Refusals.{number, first_of}
use Rattle.model.specs.Questions.{board_checks}
use Rattle.model.specs.Numbers as numbers
use Rattle.model.proofs.Laws.Refusals.{none_holds}
use Rattle.model.proofs.Laws.Shapes.{lent_sizes}
use Rattle.model.specs.declared.refusal.Refusal.{Refusal}
use Rattle.model.specs.declared.refusal.Refusal.TheVariants as refused
use Rattle.plan_search.specs.declared.answer.FirstPlan.{FirstPlan}
use Rattle.plan_search.specs.Search.{Result}
use Rattle.plan_search.specs.First.{no_plan, cut, ended_answer, first_shown, FirstPromise}
use Rattle.plan_search.proofs.Laws.First.{first_promise}
use Rattle.plan_lay.specs.declared.lay.Ending.{Ending}
use Rattle.plan_lay.specs.declared.lay.Ending.TheVariants as ending
use Rattle.plan_tables.specs.declared.lookup.Tables.{Tables}
use Rattle.plan_lay.specs.Lay.{table_task, TablesOf, calls_from, ended_with, Rest, StepEnded}
use Rattle.plan_lay.specs.Laws.Agree.{search_agrees}

-- FROM THE FIRST CALL ON. The trials that were made are those of the end, but for one that was stopped, which has none
made : (e : Ending) (plan : List ℕ) (ceiling left : ℕ) → Rest e left → ended_with e plan (min (ceiling + 1 - left) ceiling) ≡ ended_with e plan (ceiling + 1 - left)
made ending.Found plan ceiling left h = let z : min (ceiling + 1 - left) ceiling ≡ ceiling + 1 - left = omega arith in rw z refl
made ending.Nothing plan ceiling left h = let z : min (ceiling + 1 - left) ceiling ≡ ceiling + 1 - left = omega arith in rw z refl
made ending.Stopped plan ceiling left h = refl

pub all_laid : (ceiling : ℕ) {r : Result} {left n : ℕ} {back plan : List ℕ} (e : Ending) → StepEnded r (ceiling + 1) left back plan e
    → n ≡ min (ceiling + 1 - left) ceiling → ended_answer ceiling (ended_with e plan n) ≡ ended_answer ceiling (cut ceiling r)
all_laid ceiling {r} {left} {n} {back} {plan} e x is =
    let z : ceiling + 1 - 1 ≡ ceiling = omega arith in
    ap (ended_answer ceiling) (ap (ended_with e plan) is ∙ made e plan ceiling left x.remains ∙ (rw z at x.ended))

pub laid_plan : (s : State) {t : Tables} (ceiling : ℕ) {a : FirstPlan} → TablesOf s.value.heads s.rows s.slots t → ((j : ℕ) → get_or s.rows j 0 < 256)
    → a ≡ ended_answer ceiling (cut ceiling (calls_from (table_task t) 0 no_plan)) → a ≡ first_shown s ceiling
laid_plan s {t} ceiling of bytes e = e ∙ ap (λ (r : Result). ended_answer ceiling (cut ceiling r)) (search_agrees s t of bytes)

-- THE ENTRY: the first of its checks that holds is the refusal
module _ (s : State) (ceiling : ℕ) where
  refused_under : (f : Refusal) → number f ≡ first_of (board_checks s) → FirstPromise s ceiling (Err f)
  refused_under f e = first_promise s ceiling (Err f) e

  -- a buffer is not as long as it has to be
  pub rows_refused : length s.rows ≢ rows_length → FirstPromise s ceiling (Err refused.BufferLength)
  rows_refused n = refused_under refused.BufferLength (rw (ne_eqb (length s.rows) rows_length n) refl)

  pub killers_refused : length s.rows ≡ rows_length → length s.killers ≢ killers_length → FirstPromise s ceiling (Err refused.BufferLength)
  killers_refused r n = refused_under refused.BufferLength (rw (r, ne_eqb (length s.killers) killers_length n) refl)

  pub slots_refused : length s.rows ≡ rows_length → length s.killers ≡ killers_length → length s.slots ≢ slots_length → FirstPromise s ceiling (Err refused.BufferLength)
  slots_refused r k n = refused_under refused.BufferLength (rw (r, k, ne_eqb (length s.slots) slots_length n) refl)

  -- or each is, and there is no board, or one
  module _ (r : length s.rows ≡ rows_length) (k : length s.killers ≡ killers_length) (l : length s.slots ≡ slots_length) where
    pub board_refused : get_or s.value.heads.counts 0 0 ≡ 0 → FirstPromise s ceiling (Err refused.NoBoard)
    board_refused e = refused_under refused.NoBoard (rw (r, k, l, e) refl)

    pub first_given : {a : FirstPlan} → get_or s.value.heads.counts 0 0 ≢ 0 → a ≡ first_shown s ceiling → FirstPromise s ceiling (Ok a)
    first_given {a} n h = first_promise s ceiling (Ok a) (rw (r, k, l, ne_eqb (get_or s.value.heads.counts 0 0) 0 n) refl, h)

-- THE LENGTHS behind checks that refuse nothing
module _ (s : State) {n : ℕ} (e : n ≡ first_of (board_checks s)) where
  pub lent_rows : n ≡ 0 → length s.rows ≡ rows_length
  lent_rows z = (lent_sizes (lent_of s) (none_holds (board_checks s) tt (sym e ∙ z) numbers.buffer_length)).0

  pub lent_slots : n ≡ 0 → length s.slots ≡ slots_length
  lent_slots z = (lent_sizes (lent_of s) (none_holds (board_checks s) tt (sym e ∙ z) numbers.buffer_length)).2
