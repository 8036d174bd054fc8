-- THE STARRED BOARDS FOLLOW FROM THE DEFINITIONS: one computation over the list of them, and the filter's law. S and R are counted on the calls of the board alone,
-- where a count over all the slots of the memory would take most of the time of the crate's check. Assumes nothing.
use Rattle.std.specs.Prelude.{◌≡◌, refl, Bool, false, ◌&&◌, cond, List, [], ◌∷◌, map, ℕ, ◌+◌, ◌-◌, ◌*◌, ◌/◌, ◌%◌, min, ◌≤◌, ◌<◌, length}
use Rattle.std.proofs.Common.{ap, ◌∙◌, add-zero, arith}
use Rattle.std.proofs.Math.ListN.{get_or-eq_default}
use Rattle.model.specs.declared.command.Read.{Read}
use Rattle.model.specs.declared.command.Read.TheVariants as found
use Rattle.model.specs.Board.{Board, active?}
use Rattle.model.specs.Tests.{count_below, has}
use Rattle.model.specs.Filter.{in?, open_of}
use Rattle.model.specs.Commands.{read_at}
use Rattle.model.specs.Ledger.{fresh, refusal, lengths}
use Rattle.model.specs.Report.{slot_count, closed?, changes_slots?}
use Rattle.model.specs.Samples.{Outcome, Sample, outcome_of, struck_by_read, reopened_by_read, ledger_before, ledger_last, Right, AllRight, samples, forms, form_numbers}
use Rattle.model.proofs.Laws.Tests.{and_false, count_none, count_add}
use Rattle.model.proofs.Laws.Filter.{found_viable}

-- a count of which nothing passes from m on
count_first : (n m : ℕ) (f : ℕ → Bool) → m ≤ n → ((i : ℕ) → m ≤ i → i < n → f i ≡ false) → count_below n f ≡ count_below m f
count_first n m f h fails =
    let e : n ≡ m + (n - m) = omega arith in
    let none : count_below (n - m) (λ i. f (m + i)) ≡ 0 = count_none (n - m) (λ i. f (m + i)) (λ i l. fails (m + i) (omega arith) (omega arith)) in
    ap (λ (k : ℕ). count_below k f) e ∙ count_add m (n - m) f ∙ ap (λ (k : ℕ). count_below m f + k) none ∙ add-zero (count_below m f)

-- the slots of the first n calls that pass a test: all, where none of a later call does
abbrev first_calls : ℕ → (ℕ → ℕ → Bool) → ℕ
first_calls n f = count_below (32 * min n 32) λ i. f (i / 32) (i % 32)

first_calls_lem : (n : ℕ) (f : ℕ → ℕ → Bool) → ((c s : ℕ) → n ≤ c → f c s ≡ false) → slot_count f ≡ first_calls n f
first_calls_lem n f fails =
    count_first 1024 (32 * min n 32) (λ i. f (i / 32) (i % 32)) (omega arith) (λ i h l. fails (i / 32) (i % 32) (omega arith))

no_such_call : (left : List (List ℕ)) (c s : ℕ) → length left ≤ c → in? left c s ≡ false
no_such_call left c s h = ap (λ (l : List ℕ). has l s) (get_or-eq_default left [] h)

abbrev struck_on_calls : Read → Board → Board → ℕ
struck_on_calls (found.Command c) B B' = cond (changes_slots? c) (first_calls (length (open_of B)) (λ c s. in? (open_of B) c s && closed? B' (open_of B') c s)) 0
struck_on_calls (found.Refused k n) B B' = 0
struck_on_calls found.End B B' = 0

abbrev reopened_on_calls : Read → Board → Board → ℕ
reopened_on_calls (found.Command c) B B' = cond (changes_slots? c) (first_calls (length (open_of B')) (λ c s. closed? B (open_of B) c s && in? (open_of B') c s)) 0
reopened_on_calls (found.Refused k n) B B' = 0
reopened_on_calls found.End B B' = 0

struck_on_calls_lem : (r : Read) (B B' : Board) → struck_by_read r B B' ≡ struck_on_calls r B B'
struck_on_calls_lem (found.Command c) B B' =
    ap (λ (n : ℕ). cond (changes_slots? c) n 0)
    (first_calls_lem (length (open_of B)) (λ c s. in? (open_of B) c s && closed? B' (open_of B') c s)
    (λ c s h. ap (λ (b : Bool). b && closed? B' (open_of B') c s) (no_such_call (open_of B) c s h)))
struck_on_calls_lem (found.Refused k n) B B' = refl
struck_on_calls_lem found.End B B' = refl

reopened_on_calls_lem : (r : Read) (B B' : Board) → reopened_by_read r B B' ≡ reopened_on_calls r B B'
reopened_on_calls_lem (found.Command c) B B' =
    ap (λ (n : ℕ). cond (changes_slots? c) n 0)
    (first_calls_lem (length (open_of B')) (λ c s. closed? B (open_of B) c s && in? (open_of B') c s)
    (λ c s h. rw (no_such_call (open_of B') c s h) (and_false (closed? B (open_of B) c s))))
reopened_on_calls_lem (found.Refused k n) B B' = refl
reopened_on_calls_lem found.End B B' = refl

-- the outcome, its S and R counted so
abbrev counted_of : Sample → ℕ → ℕ → Outcome
counted_of x struck reopened = let o = outcome_of x in record { refused = o.refused; struck = struck; reopened = reopened; left = o.left; sheet = o.sheet }

abbrev outcome_on_calls : Sample → Outcome
outcome_on_calls x =
    counted_of x (struck_on_calls (read_at x.last 0).read (ledger_before x).board (ledger_last x).board)
    (reopened_on_calls (read_at x.last 0).read (ledger_before x).board (ledger_last x).board)

outcome_on_calls_lem : (x : Sample) → outcome_of x ≡ outcome_on_calls x
outcome_on_calls_lem x =
    ap (λ (n : ℕ). counted_of x n (reopened_by_read (read_at x.last 0).read (ledger_before x).board (ledger_last x).board))
    (struck_on_calls_lem (read_at x.last 0).read (ledger_before x).board (ledger_last x).board)
    ∙ ap (λ (n : ℕ). counted_of x (struck_on_calls (read_at x.last 0).read (ledger_before x).board (ledger_last x).board) n)
    (reopened_on_calls_lem (read_at x.last 0).read (ledger_before x).board (ledger_last x).board)

right : (x : Sample) → outcome_of x ≡ x.outcome → Right x
right x e = record { outcome = e; viable = λ c s. rw (← ap (λ (o : Outcome). o.left) e) (found_viable (ledger_last x).board c s) }

all_right : (xs : List Sample) → map outcome_on_calls xs ≡ map (λ (x : Sample). x.outcome) xs → AllRight xs
all_right [] e = tt
all_right (x ∷ xs) e = (right x (outcome_on_calls_lem x ∙ cc), all_right xs (cc))

pub samples_right : AllRight samples
unfolding active?
samples_right = all_right samples refl

pub forms_refused : map (refusal fresh lengths) forms ≡ form_numbers
forms_refused = refl
