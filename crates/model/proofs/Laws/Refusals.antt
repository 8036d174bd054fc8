-- ALL LAWS ABOUT THE FIRST CONDITION THAT HOLDS, over any list: a condition is read by its number and never by its place; and about answers by their numbers. Assumes nothing.
use Rattle.std.specs.Prelude.{◌≡◌, refl, Bool, true, false, ◌&&◌, cond, List, [], ◌∷◌, ◌++◌, ◌≢◌, ℕ, zero, suc, T, eqb, get_or, Result, Ok, Err}
use Rattle.std.proofs.Common.{sym, ap, ◌∙◌, arith}
use Rattle.model.specs.declared.refusal.Refusal.{Refusal}
use Rattle.model.specs.declared.refusal.Refusal.TheVariants as kind
use Rattle.model.specs.Promise.{values_at}
use Rattle.model.specs.Refusals.{number, first_of, condition_of, is_refusal, numbered, number_of, Checked, Chain, ends, stops, goes, with_numbers, AnsweredBy}

-- EVERY REFUSAL HAS A NUMBER OF ITS OWN, and none is 0
number_some : (e : Refusal) → is_refusal (number e) ≡ true
number_some kind.BufferLength = refl
number_some kind.FileLength = refl
number_some kind.UnknownKind = refl
number_some kind.BodyLength = refl
number_some kind.BadCounts = refl
number_some kind.NoBoard = refl
number_some kind.BadNumber = refl
number_some kind.BadArity = refl
number_some kind.CallOffBoard = refl
number_some kind.CallTwice = refl
number_some kind.SpareField = refl
number_some kind.NoDraft = refl
number_some kind.DraftFull = refl
number_some kind.SlotOffCall = refl
number_some kind.RowTwice = refl
number_some kind.InForce = refl
number_some kind.NotInForce = refl
number_some kind.NoCall = refl
number_some kind.NoSlot = refl
number_some kind.NoRow = refl
number_some kind.NoColumn = refl
number_some kind.TableLength = refl
number_some kind.BadForm = refl
number_some kind.BadGap = refl
number_some kind.TooManyPairs = refl
number_some kind.BadName = refl
number_some kind.NothingKept = refl
number_some kind.AlreadyCancelled = refl
number_some kind.CancelledCall = refl
number_some kind.PlanLength = refl
number_some kind.BadPlanByte = refl

pub number_not_zero : (e : Refusal) → number e ≡ 0 → ⊥
number_not_zero e z = let d : true ≡ false = sym (number_some e) ∙ ap is_refusal z in cc

with_number : ℕ → Refusal
with_number n =
    get_or
    (kind.BufferLength ∷ kind.BufferLength ∷ kind.FileLength ∷ kind.UnknownKind ∷ kind.BodyLength ∷ kind.BadCounts ∷ kind.NoBoard ∷ kind.BadNumber ∷ kind.BadArity ∷ kind.CallOffBoard ∷ kind.CallTwice ∷ kind.SpareField ∷ kind.NoDraft ∷ kind.DraftFull ∷ kind.SlotOffCall ∷ kind.RowTwice ∷ kind.InForce ∷ kind.NotInForce ∷ kind.NoCall ∷ kind.NoSlot ∷ kind.NoRow ∷ kind.NoColumn ∷ kind.TableLength ∷ kind.BadForm ∷ kind.BadGap ∷ kind.TooManyPairs ∷ kind.BadName ∷ kind.NothingKept ∷ kind.AlreadyCancelled ∷ kind.CancelledCall ∷ kind.BufferLength ∷ kind.BufferLength ∷ kind.PlanLength ∷ kind.BadPlanByte ∷ [])
    n kind.BufferLength

with_own_number : (e : Refusal) → with_number (number e) ≡ e
unfolding with_number
with_own_number kind.BufferLength = refl
with_own_number kind.FileLength = refl
with_own_number kind.UnknownKind = refl
with_own_number kind.BodyLength = refl
with_own_number kind.BadCounts = refl
with_own_number kind.NoBoard = refl
with_own_number kind.BadNumber = refl
with_own_number kind.BadArity = refl
with_own_number kind.CallOffBoard = refl
with_own_number kind.CallTwice = refl
with_own_number kind.SpareField = refl
with_own_number kind.NoDraft = refl
with_own_number kind.DraftFull = refl
with_own_number kind.SlotOffCall = refl
with_own_number kind.RowTwice = refl
with_own_number kind.InForce = refl
with_own_number kind.NotInForce = refl
with_own_number kind.NoCall = refl
with_own_number kind.NoSlot = refl
with_own_number kind.NoRow = refl
with_own_number kind.NoColumn = refl
with_own_number kind.TableLength = refl
with_own_number kind.BadForm = refl
with_own_number kind.BadGap = refl
with_own_number kind.TooManyPairs = refl
with_own_number kind.BadName = refl
with_own_number kind.NothingKept = refl
with_own_number kind.AlreadyCancelled = refl
with_own_number kind.CancelledCall = refl
with_own_number kind.PlanLength = refl
with_own_number kind.BadPlanByte = refl

pub number_own : (e f : Refusal) → number e ≡ number f → e ≡ f
number_own e f same = sym (with_own_number e) ∙ ap with_number same ∙ with_own_number f

-- A CHECK THAT IS PASSED leaves the rest of the list, and one that is not decides it
pub check_passed : (e : Refusal) (holds : Bool) (r : Result (Unit {0}) Refusal) (xs : List (Bool × ℕ)) → Checked e holds r → number_of r ≡ 0 → first_of ((holds, number e) ∷ xs) ≡ first_of xs
check_passed e holds (Ok u) xs c z = rw c refl
check_passed e holds (Err f) xs c z = absurd (number_not_zero f z)

pub check_failed : (e : Refusal) (holds : Bool) (f : Refusal) (xs : List (Bool × ℕ)) → Checked e holds (Err f) → number f ≡ first_of ((holds, number e) ∷ xs)
check_failed e holds f xs c = rw (c.0, c.1) refl

pub check_last : (e : Refusal) (holds : Bool) (r : Result (Unit {0}) Refusal) → Checked e holds r → number_of r ≡ first_of ((holds, number e) ∷ [])
check_last e holds (Ok u) c = rw c refl
check_last e holds (Err f) c = check_failed e holds f [] c

-- THE CHAIN GIVES THE FIRST that holds
pub chain_first : (xs : List (Bool × Refusal)) (r : Result (Unit {0}) Refusal) → Chain xs r → number_of r ≡ first_of (with_numbers xs)
chain_first [] r ends = refl
chain_first (x ∷ xs) r (stops {holds} {e} {f} c) = check_failed e holds f (with_numbers xs) c
chain_first (x ∷ xs) r (goes c rest) = rw c (chain_first xs r rest)

-- the last check, which has no `?` behind it
pub chain_last : (e : Refusal) (holds : Bool) (r : Result (Unit {0}) Refusal) → Checked e holds r → Chain ((holds, e) ∷ []) r
chain_last e holds (Ok u) c = goes {u = u} c ends
chain_last e holds (Err f) c = stops c

-- a list of checks gives one answer
pub chain_one : (xs : List (Bool × Refusal)) (q r : Result (Unit {0}) Refusal) → Chain xs q → Chain xs r → q ≡ r
chain_one [] q r ends ends = refl
chain_one (x ∷ xs) q r (stops c) (stops d) = ap Err (c.1 ∙ sym d.1)
chain_one (x ∷ xs) q r (stops c) (goes d rest) = let z : true ≡ false = sym c.0 ∙ d in absurd cc
chain_one (x ∷ xs) q r (goes c rest) (stops d) = let z : true ≡ false = sym d.0 ∙ c in absurd cc
chain_one (x ∷ xs) q r (goes c more) (goes d rest) = chain_one xs q r more rest

-- a refusal stands: what follows it changes nothing
pub stands : (xs ys : List (Bool × Refusal)) (f : Refusal) → Chain xs (Err f) → Chain (xs ++ ys) (Err f)
stands [] ys f c = elim c [ ]
stands (x ∷ xs) ys f (stops c) = stops c
stands (x ∷ xs) ys f (goes {u} c rest) = goes {u = u} c (stands xs ys f rest)

-- the rest of a chain, behind the answer so far: a refusal stands, and where there is none the list decides
abbrev pub ChainFrom : Result (Unit {0}) Refusal → List (Bool × Refusal) → Result (Unit {0}) Refusal → Type 0
ChainFrom (Ok u) xs r = Chain xs r
ChainFrom (Err f) xs r = r ≡ Err f

-- a chain may be gone through in two parts
pub chain_append : (xs ys : List (Bool × Refusal)) (q r : Result (Unit {0}) Refusal) → Chain xs q → ChainFrom q ys r → Chain (xs ++ ys) r
chain_append [] ys q r ends rest = rest
chain_append (x ∷ xs) ys q r (stops c) rest = rw rest (stops c)
chain_append (x ∷ xs) ys q r (goes {u} c more) rest = goes {u = u} c (chain_append xs ys q r more rest)

-- and each chain is gone through so
pub chain_parts : (xs ys : List (Bool × Refusal)) (r : Result (Unit {0}) Refusal) → Chain (xs ++ ys) r → (q : Result (Unit {0}) Refusal) × Chain xs q × ChainFrom q ys r
chain_parts [] ys r c = (Ok tt, ends, c)
chain_parts (x ∷ xs) ys r (stops {f} c) = (Err f, stops c, refl)
chain_parts (x ∷ xs) ys r (goes {u} c rest) = let p = chain_parts xs ys r rest in (p.0, goes {u = u} c p.1, p.2)

-- WHERE NOTHING IS REFUSED no condition holds, whatever its number
pub none_holds : (xs : List (Bool × ℕ)) → T (numbered xs) → first_of xs ≡ 0 → (n : ℕ) → condition_of n xs ≡ false
none_holds [] t e n = refl
none_holds (x ∷ xs) t e n = go x.0 x.1 (eqb n x.1) t e (λ t e. none_holds xs t e n)
  where
    go : (b : Bool) (k : ℕ) (same : Bool) → T (is_refusal k && numbered xs) → cond b k (first_of xs) ≡ 0
        → (T (numbered xs) → first_of xs ≡ 0 → condition_of n xs ≡ false) → cond same b (condition_of n xs) ≡ false
    go b zero same t e ih = absurd t
    go true (suc k) same t e ih = let z : ◌≡◌ {A = ℕ} 0 1 = cc in absurd (omega arith)
    go false (suc k) true t e ih = refl
    go false (suc k) false t e ih = ih t e

-- OF TWO LISTS one after another: a number of the first is that of both; where the first has none, the second decides
pub first_stands : (xs ys : List (Bool × ℕ)) (n : ℕ) → first_of xs ≡ suc n → first_of (xs ++ ys) ≡ suc n
first_stands [] ys n e = absurd (omega arith)
first_stands (x ∷ xs) ys n e = go x.0 e (λ d. first_stands xs ys n d)
  where
    go : (b : Bool) → cond b x.1 (first_of xs) ≡ suc n → (first_of xs ≡ suc n → first_of (xs ++ ys) ≡ suc n) → cond b x.1 (first_of (xs ++ ys)) ≡ suc n
    go true e k = e
    go false e k = k e

pub rest_decides : (xs ys : List (Bool × ℕ)) → T (numbered xs) → first_of xs ≡ 0 → first_of (xs ++ ys) ≡ first_of ys
rest_decides [] ys t e = refl
rest_decides (x ∷ xs) ys t e = go x.0 x.1 t e (λ t d. rest_decides xs ys t d)
  where
    go : (b : Bool) (k : ℕ) → T (is_refusal k && numbered xs) → cond b k (first_of xs) ≡ 0 → (T (numbered xs) → first_of xs ≡ 0 → first_of (xs ++ ys) ≡ first_of ys)
        → cond b k (first_of (xs ++ ys)) ≡ first_of ys
    go b zero t e ih = absurd t
    go true (suc k) t e ih = absurd (omega arith)
    go false (suc k) t e ih = ih t e

-- where both together have none, the second has none
pub rest_passes : (xs ys : List (Bool × ℕ)) → T (numbered xs) → first_of (xs ++ ys) ≡ 0 → first_of ys ≡ 0
rest_passes xs ys t e = go (first_of xs) refl
  where
    go : (n : ℕ) → first_of xs ≡ n → first_of ys ≡ 0
    go zero d = sym (rest_decides xs ys t d) ∙ e
    go (suc n) d = absurd (omega (arith, first_stands xs ys n d, e))

-- TWO LISTS AGREE: the same numbers, and the same conditions up to the first that holds
pub data Agree : List (Bool × ℕ) → List (Bool × ℕ) → Type 0 where
  none : Agree [] []
  next : {b c : Bool} {n : ℕ} {xs ys : List (Bool × ℕ)} → b ≡ c → (c ≡ false → Agree xs ys) → Agree ((b, n) ∷ xs) ((c, n) ∷ ys)

pub agree_first : {xs ys : List (Bool × ℕ)} → Agree xs ys → first_of xs ≡ first_of ys
agree_first none = refl
agree_first (next {b} {c} {n} {xs} {ys} same rest) = rw same (go c (λ e. agree_first (rest e)))
  where
    go : (c : Bool) → (c ≡ false → first_of xs ≡ first_of ys) → cond c n (first_of xs) ≡ cond c n (first_of ys)
    go true ih = refl
    go false ih = ih refl

-- AN ANSWER BY A NUMBER has that number; where it is 0 it is what was to be answered; and its values go with the number
pub answered_number : {A : Type 0} (n : ℕ) (a : A) (given : Result A Refusal) → AnsweredBy n a given → number_of given ≡ n
answered_number n a (Ok b) h = sym h.0
answered_number n a (Err e) h = h

pub answered_with : {A : Type 0} (n : ℕ) (a : A) (given : Result A Refusal) → AnsweredBy n a given → n ≡ 0 → given ≡ Ok a
answered_with n a (Ok b) h z = ap Ok h.1
answered_with n a (Err e) h z = absurd (number_not_zero e (h ∙ z))

-- and one that is not 0 is the refusal that has it
pub refused_by : {A : Type 0} (n : ℕ) (a : A) (given : Result A Refusal) → AnsweredBy n a given → n ≢ 0 → (e : Refusal) × (given ≡ Err e) × (number e ≡ n)
refused_by n a (Ok b) h r = absurd (r h.0)
refused_by n a (Err e) h r = (e, refl, h)

pub no_values : (n : ℕ) (vs : List ℕ) → (n ≡ 0 → ⊥) → values_at n vs ≡ []
no_values zero vs ne = absurd (ne refl)
no_values (suc n) vs ne = refl

pub answered_values : {A : Type 0} (values : Result A Refusal → List ℕ) → ((e : Refusal) → values (Err e) ≡ []) → (n : ℕ) (a : A) (given : Result A Refusal) → AnsweredBy n a given
    → values given ≡ values_at n (values (Ok a))
answered_values values nothing n a (Ok b) h = rw (h.0, h.1) refl
answered_values values nothing n a (Err e) h = nothing e ∙ sym (no_values n (values (Ok a)) (λ z. number_not_zero e (h ∙ z)))
