-- CONDITIONS WITH THEIR NUMBERS (SCOPE 4.3): of a list of them the first that holds gives the refusal.
use Rattle.std.specs.Prelude.{◌≡◌, Bool, true, false, ◌&&◌, cond, List, [], ◌∷◌, ℕ, zero, suc, Result, Ok, Err, eqb}
use Rattle.model.specs.declared.refusal.Refusal.{Refusal}
use Rattle.model.specs.declared.refusal.Refusal.TheVariants as kind
use Rattle.model.specs.Numbers as refused

-- THE NUMBER OF A REFUSAL (SCOPE 4.1)
abbrev pub number : Refusal → ℕ
number kind.BufferLength = refused.buffer_length
number kind.FileLength = refused.file_length
number kind.UnknownKind = refused.unknown_kind
number kind.BodyLength = refused.body_length
number kind.BadCounts = refused.bad_counts
number kind.NoBoard = refused.no_board
number kind.BadNumber = refused.bad_number
number kind.BadArity = refused.bad_arity
number kind.CallOffBoard = refused.call_off_board
number kind.CallTwice = refused.call_twice
number kind.SpareField = refused.spare_field
number kind.NoDraft = refused.no_draft
number kind.DraftFull = refused.draft_full
number kind.SlotOffCall = refused.slot_off_call
number kind.RowTwice = refused.row_twice
number kind.InForce = refused.in_force
number kind.NotInForce = refused.not_in_force
number kind.NoCall = refused.no_call
number kind.NoSlot = refused.no_slot
number kind.NoRow = refused.no_row
number kind.NoColumn = refused.no_column
number kind.TableLength = refused.table_length
number kind.BadForm = refused.bad_form
number kind.BadGap = refused.bad_gap
number kind.TooManyPairs = refused.too_many_pairs
number kind.BadName = refused.bad_name
number kind.NothingKept = refused.nothing_kept
number kind.AlreadyCancelled = refused.already_cancelled
number kind.CancelledCall = refused.cancelled_call
number kind.PlanLength = refused.plan_length
number kind.BadPlanByte = refused.bad_plan_byte

-- the number of the first condition that holds; 0 where none does
abbrev pub first_of : List (Bool × ℕ) → ℕ
first_of [] = 0
first_of (x ∷ xs) = cond x.0 x.1 (first_of xs)

-- the condition that goes with a number
abbrev pub condition_of : ℕ → List (Bool × ℕ) → Bool
condition_of n [] = false
condition_of n (x ∷ xs) = cond (eqb n x.1) x.0 (condition_of n xs)

-- no number of the list is 0
abbrev pub is_refusal : ℕ → Bool
is_refusal zero = false
is_refusal (suc n) = true

abbrev pub numbered : List (Bool × ℕ) → Bool
numbered [] = true
numbered (x ∷ xs) = is_refusal x.1 && numbered xs

-- THE NUMBER OF AN ANSWER (SCOPE 10.5): the refusal's, and 0 where there is an answer
abbrev pub number_of : {A : Type 0} → Result A Refusal → ℕ
number_of (Ok a) = 0
number_of (Err e) = number e

-- the refusal, where the condition holds
abbrev pub Checked : Refusal → Bool → Result (Unit {0}) Refusal → Type 0
Checked e holds (Ok u) = holds ≡ false
Checked e holds (Err f) = (holds ≡ true) × (f ≡ e)

-- WHAT THE CODE DOES with a list of checks, a line of `when` with `?` for each: a check whose condition holds stops it with its refusal, whatever follows; one whose condition
-- does not hold leaves the answer to the rest; and with no check left there is nothing to refuse
pub data Chain : List (Bool × Refusal) → Result (Unit {0}) Refusal → Type 0 where
  ends : {u : Unit {0}} → Chain [] (Ok u)
  stops : {holds : Bool} {e f : Refusal} {xs : List (Bool × Refusal)} → Checked e holds (Err f) → Chain ((holds, e) ∷ xs) (Err f)
  goes : {holds : Bool} {e : Refusal} {u : Unit {0}} {xs : List (Bool × Refusal)} {r : Result (Unit {0}) Refusal} → Checked e holds (Ok u) → Chain xs r
      → Chain ((holds, e) ∷ xs) r

-- each refusal by its number
abbrev pub with_numbers : List (Bool × Refusal) → List (Bool × ℕ)
with_numbers [] = []
with_numbers (x ∷ xs) = (x.0, number x.1) ∷ with_numbers xs

-- AN ANSWER BY A NUMBER: what is to be answered where the number is 0, else the refusal that has it
abbrev pub AnsweredBy : {A : Type 0} → ℕ → A → Result A Refusal → Type 0
AnsweredBy n a (Ok b) = (n ≡ 0) × (b ≡ a)
AnsweredBy n a (Err e) = number e ≡ n
