-- The laws of a loop that asks whether some number below n passes a test, or whether each of them does: nothing so far, one number more, an answer that
-- ends the search, and the end.
use Rattle.std.specs.Prelude.{◌≡◌, refl, Bool, true, false, ℕ, zero, suc, ◌+◌, ◌<◌, ◌≤◌}
use Rattle.std.proofs.Common.{sym, ◌∙◌, add-one, arith}
use Rattle.model.specs.Tests.{some?, every?, first}
use Rattle.model.proofs.Laws.Tests.{some→, →some, every→, →T, T→, not→}
use Rattle.tables.specs.Laws.Facts.{true_false}

-- no number below n passes f
pub record NoneBelow (f : ℕ → Bool) (n : ℕ) : Type 0 where
  pub none : some? n f ≡ false

pub none_start : {f : ℕ → Bool} → NoneBelow f 0
none_start = record { none = refl }

pub none_more : {f : ℕ → Bool} {n : ℕ} → NoneBelow f n → f n ≡ false → NoneBelow f (n + 1)
none_more s e = record { none = rw (add-one, s.none) e }

-- the same where a answers what the test says
pub none_more_by : {f : ℕ → Bool} {n : ℕ} {a : Bool} → NoneBelow f n → a ≡ f n → a ≡ false → NoneBelow f (n + 1)
none_more_by s is e = none_more s (sym is ∙ e)

pub none_all : {f : ℕ → Bool} {n : ℕ} → ((i : ℕ) → i < n → f i ≡ false) → NoneBelow f n
none_all {f} {n} all = record { none = not→ (some? n f) (λ t. let r = some→ n f t in true_false (T→ (f r.0) r.2) (all r.0 r.1)) }

pub some_found : {f : ℕ → Bool} {i : ℕ} → NoneBelow f i → (n : ℕ) → i < n → f i ≡ true → true ≡ some? n f
some_found {f} {i} s n h e = sym (T→ (some? n f) (→some n f i h (→T (f i) e)))

pub some_found_by : {f : ℕ → Bool} {i : ℕ} {a : Bool} → NoneBelow f i → (n : ℕ) → i < n → a ≡ f i → a ≡ true → true ≡ some? n f
some_found_by s n h is e = some_found s n h (sym is ∙ e)

pub none_found : {f : ℕ → Bool} {i : ℕ} → NoneBelow f i → (n : ℕ) → i ≤ n → n ≤ i → false ≡ some? n f
none_found {f} {i} s n h k = let z : n ≡ i = omega arith in rw (z, s.none) refl

-- each number below n passes f
pub record EachBelow (f : ℕ → Bool) (n : ℕ) : Type 0 where
  pub each : every? n f ≡ true

pub each_start : {f : ℕ → Bool} → EachBelow f 0
each_start = record { each = refl }

pub each_more : {f : ℕ → Bool} {n : ℕ} → EachBelow f n → f n ≡ true → EachBelow f (n + 1)
each_more s e = record { each = rw (add-one, s.each) e }

pub other_found : {f : ℕ → Bool} {i : ℕ} → EachBelow f i → (n : ℕ) → i < n → f i ≡ false → false ≡ every? n f
other_found {f} {i} s n h e = sym (not→ (every? n f) (λ t. true_false (T→ (f i) (every→ n f t i h)) e))

pub each_found : {f : ℕ → Bool} {i : ℕ} → EachBelow f i → (n : ℕ) → i ≤ n → n ≤ i → true ≡ every? n f
each_found {f} {i} s n h k = let z : n ≡ i = omega arith in rw (z, s.each) refl

-- tests that agree below n find alike
pub some_same : (n : ℕ) (f g : ℕ → Bool) → ((i : ℕ) → i < n → f i ≡ g i) → some? n f ≡ some? n g
some_same zero f g same = refl
some_same (suc n) f g same = let e = some_same n f g (λ i h. same i (omega arith)) in let d = same n (omega arith) in rw (e, d) refl

pub every_same : (n : ℕ) (f g : ℕ → Bool) → ((i : ℕ) → i < n → f i ≡ g i) → every? n f ≡ every? n g
every_same zero f g same = refl
every_same (suc n) f g same = let e = every_same n f g (λ i h. same i (omega arith)) in let d = same n (omega arith) in rw (e, d) refl

-- and the same first number
pub first_same : (n : ℕ) (f g : ℕ → Bool) → ((i : ℕ) → i < n → f i ≡ g i) → first n f ≡ first n g
first_same zero f g same = refl
first_same (suc n) f g same =
    let e = some_same n f g (λ i h. same i (omega arith)) in
    let d = first_same n f g (λ i h. same i (omega arith)) in
    let x = same n (omega arith) in
    rw (e, d, x) refl
