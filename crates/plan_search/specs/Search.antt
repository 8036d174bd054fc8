-- THE SEARCH FOR A PLAN (SCOPE 5.9, order 8), with the number of its trials (5.10). It is over any calls, slots and test of a slot just laid, and no ceiling stops it: it
-- falls on the calls and the slots that are left. First the test that the order names.
use Rattle.std.specs.Prelude.{Bool, not, ◌&&◌, ◌||◌, cond, List, ℕ, zero, suc, ◌+◌, set, eqb}
use Rattle.model.specs.Board.{no_slot_given}
use Rattle.model.specs.Tests.{some?, every?}
use Rattle.plan_model.specs.Plans.{RulesRead, slot_in, fitted?}

-- OF A PLAN LAID IN PART (SCOPE 5.9): a call is laid where the plan has a slot for it
abbrev pub laid? : List ℕ → ℕ → Bool
laid? plan c = not (eqb (slot_in plan c) no_slot_given)

-- a rule is due where some call of it is laid, and each of them is laid or cancelled
unfoldable pub due? : RulesRead → List ℕ → ℕ → Bool
due? R plan p =
    some? (R.columns p) (λ k. laid? plan (R.call p k)) && every? (R.columns p) (λ k. R.off (R.call p k) || laid? plan (R.call p k))

-- A SLOT JUST LAID STAYS where every rule that is due has a row that fits (SCOPE 1.23)
unfoldable pub stays? : RulesRead → List ℕ → Bool
stays? R plan = every? 64 λ p. not (due? R plan p) || fitted? R plan p

-- WHAT A SEARCH COMES TO (SCOPE 5.10): a plan after so many trials, or nothing after so many
pub data Result : Type 0 where
  found : List ℕ → ℕ → Result
  nothing : ℕ → Result

-- a result with n trials before it (SCOPE 5.10)
abbrev pub after : ℕ → Result → Result
after n (found plan m) = found plan (n + m)
after n (nothing m) = nothing (n + m)

-- a result, and where it is nothing the next one behind its trials
abbrev pub or_next : Result → Result → Result
or_next (found plan n) rest = found plan n
or_next (nothing n) rest = after n rest

-- WHAT IS SEARCHED (SCOPE 5.9): which calls get a slot, which slots of a call are open, and whether the slot just laid for a call stays in the plan
pub record Task : Type 0 where
  pub lays : ℕ → Bool
  pub opens : ℕ → ℕ → Bool
  pub stays : ℕ → List ℕ → Bool

-- THE SLOTS OF CALL c, m of them left from s on, are tried in turn (SCOPE 5.9). To lay an open one is a trial, the only thing that counts (5.10). Where it stays the calls
-- behind it are laid; where it does not, or they come to nothing, the next slot is tried. With none left it is for the call before to go on
unfoldable pub tries : Task → (List ℕ → Result) → ℕ → ℕ → ℕ → List ℕ → Result
tries t deeper c zero s plan = nothing 0
tries t deeper c (suc m) s plan =
    let rest = tries t deeper c m (suc s) plan in
    let laid = set plan c s in
    let behind = deeper laid in
    let tried = after 1 (or_next (cond (t.stays c laid) behind (nothing 0)) rest) in
    cond (t.opens c s) tried rest

-- THE CALLS, n of them left from c on, are laid in rising order (SCOPE 5.9), and those that get no slot are skipped
unfoldable pub search : Task → ℕ → ℕ → List ℕ → Result
search t zero c plan = found plan 0
search t (suc n) c plan =
    let skipped = search t n (suc c) plan in
    let tried = tries t (λ laid. search t n (suc c) laid) c 32 0 plan in
    cond (t.lays c) tried skipped
