-- THE SEARCH BY THE TABLES: the task that they are, and its steps from a call and from a slot on.
use Rattle.std.specs.Prelude.{◌≡◌, not, cond, List, ℕ, suc, ◌+◌, ◌-◌, ◌<◌, ◌≤◌, length, get_or, set, eqb, Option, Some, None}
use Rattle.tables.specs.Masks.{bit_of}
use Rattle.plan_model.specs.Plans.{plan_size}
use Rattle.plan_search.specs.Search.{Result, nothing, Task, tries, search}
use Rattle.plan_search.specs.First.{Ended, full, none, stopped, cut}
use Rattle.layout.specs.declared.value.Heads.{Heads}
use Rattle.plan_fit.specs.Parts.{call_parts}
use Rattle.plan_tables.specs.declared.lookup.Tables.{Tables}
use Rattle.plan_tables.specs.Lookup.{CallSlots, OpenMasks, RuleColumns, RowWords}
use Rattle.plan_tables.specs.Due.{DueRules}
use Rattle.plan_tables.specs.Fit.{stays_by}
use Rattle.plan_lay.specs.declared.lay.Ending.{Ending}
use Rattle.plan_lay.specs.declared.lay.Ending.TheVariants as ending

-- THE TASK: the calls that have slots, the slots in each call's mask, and of the rules those that the call makes due
abbrev pub table_task : Tables → Task
table_task t =
    record {
      lays = λ c. not (eqb (get_or t.held c 0) 0);
      opens = λ c s. eqb (bit_of (get_or t.opened c 0) s) 1;
      stays = λ c plan. stays_by t (get_or t.due c 0) plan;
    }

-- the tables are those of these heads, rows and slots
pub record TablesOf (heads : Heads) (rows slots : List ℕ) (t : Tables) : Type 0 where
  pub words : RowWords rows heads.lengths t.columns 64 t.words
  pub lengths : t.lengths ≡ heads.lengths
  pub columns : RuleColumns heads slots t.columns
  pub due : DueRules t.held t.columns 64 t.due
  pub opened : OpenMasks slots t.opened
  pub held : CallSlots (call_parts heads.counts slots) t.held

-- THE STEPS: the calls from c on; the slots of call c from s on; and what is behind slot s of call c
unfoldable pub calls_from : Task → ℕ → List ℕ → Result
calls_from t c plan = search t (32 - c) c plan

unfoldable pub tries_from : Task → ℕ → ℕ → List ℕ → Result
tries_from t c s plan = tries t (λ laid. calls_from t (suc c) laid) c (32 - s) s plan

unfoldable pub behind_slot : Task → ℕ → ℕ → List ℕ → Result
behind_slot t c s plan = cond (t.stays c (set plan c s)) (calls_from t (c + 1) (set plan c s)) (nothing 0)

-- r is the first number of the mask from s on, or 32 where there is none below it
pub record FirstOpen (mask s r : ℕ) : Type 0 where
  pub from : s ≤ r
  pub closed : (i : ℕ) → s ≤ i → i < r → bit_of mask i ≡ 0
  pub here : r < 32 → bit_of mask r ≡ 1

abbrev pub NextOpen : ℕ → ℕ → Option ℕ → Type 0
NextOpen mask s None = FirstOpen mask s 32
NextOpen mask s (Some r) = (r < 32) × FirstOpen mask s r

-- HOW A STEP ENDED, by the code's word for it, with the plan and the trials that it made
abbrev pub ended_with : Ending → List ℕ → ℕ → Ended
ended_with ending.Found plan n = full plan n
ended_with ending.Nothing plan n = none n
ended_with ending.Stopped plan n = stopped

-- nothing is left exactly where it stopped
abbrev pub Rest : Ending → ℕ → Type 0
Rest ending.Found left = 0 < left
Rest ending.Nothing left = 0 < left
Rest ending.Stopped left = left ≡ 0

-- where it came to nothing the plan is the one to go back to
abbrev pub Undone : Ending → List ℕ → List ℕ → Type 0
Undone ending.Found back plan = Unit {0}
Undone ending.Nothing back plan = plan ≡ back
Undone ending.Stopped back plan = Unit {0}

-- A STEP that comes to r ended, with so much left before it and after it. What is left is one more than the trials that may still be made, so what was left before it, less
-- one, is the ceiling that cuts it
pub record StepEnded (r : Result) (left rest : ℕ) (back plan : List ℕ) (e : Ending) : Type 0 where
  pub ended : ended_with e plan (left - rest) ≡ cut (left - 1) r
  pub fewer : rest ≤ left
  pub remains : Rest e rest
  pub size : length plan ≡ plan_size
  pub undone : Undone e back plan
