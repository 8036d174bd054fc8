-- COUNTS AS A LOOP MAKES THEM, one number with each round; and of two tests that never pass together. Assumes nothing.
use Rattle.std.specs.Prelude.{◌≡◌, refl, Bool, true, false, ◌&&◌, cond, List, ℕ, zero, suc, ◌+◌, ◌*◌, ◌/◌, ◌%◌, ◌≤◌, get_or, eqb, ltb}
use Rattle.std.proofs.Common.{sym, ap, ◌∙◌, true≢false, add-one, arith, ne_eqb}
use Rattle.std.proofs.Math.Decide.{ℕ_discrete}
use Rattle.model.specs.Tests.{count_below}
use Rattle.model.specs.Report.{open?, struck?, struck_between, reopened_between}
use Rattle.layout.specs.Places.{cause_of}
use Rattle.layout.specs.Sizes.{slots_length}

-- the digit of a test
digit_most : (b : Bool) {d : ℕ} → d ≡ cond b 1 0 → d ≤ 1
digit_most true e = omega arith
digit_most false e = omega arith

-- m of the numbers below n pass the test f
pub record CountTo (f : ℕ → Bool) (n m : ℕ) : Type 0 where
  pub most : m ≤ n
  pub is : m ≡ count_below n f

pub count_to_none : (f : ℕ → Bool) → CountTo f 0 0
count_to_none f = record { most = omega arith; is = refl }

-- one number more, whose digit d says whether it passes
pub count_to_more : {f : ℕ → Bool} {n m d : ℕ} → CountTo f n m → d ≡ cond (f n) 1 0 → CountTo f (n + 1) (m + d)
count_to_more {f} {n} {m} {d} x e =
    record { most = omega (arith, x.most, digit_most (f n) e); is = sum x.is e ∙ sym (ap (λ (k : ℕ). count_below k f) (add-one n)) }
  where
    sum : {a b : ℕ} → m ≡ a → d ≡ b → m + d ≡ a + b
    sum p q = cc

-- after the last round, where the loop's test says that n is k
pub count_to_at : {f : ℕ → Bool} {n k m : ℕ} → CountTo f n m → n ≤ k → k ≤ n → m ≡ count_below k f
count_to_at {f} {n} {k} x l g = let e : k ≡ n = omega arith in rw e x.is

-- the byte at place i is that of its call and slot
pub open_place : (slots : List ℕ) (i : ℕ) → eqb (get_or slots i 0) 255 ≡ open? slots (i / 32) (i % 32)
open_place slots i = let e : i ≡ 32 * (i / 32) + i % 32 = omega arith in ap (λ (j : ℕ). eqb (get_or slots j 0) 255) e

pub struck_place : (slots : List ℕ) (i : ℕ) → ltb (get_or slots i 0) 64 ≡ struck? slots (i / 32) (i % 32)
struck_place slots i = let e : i ≡ 32 * (i / 32) + i % 32 = omega arith in ap (λ (j : ℕ). ltb (get_or slots j 0) 64) e

-- TWO TESTS THAT NEVER PASS TOGETHER pass no more often than either is made
count_apart : (n : ℕ) (f g : ℕ → Bool) → ((i : ℕ) → f i && g i ≡ false) → count_below n f + count_below n g ≤ n
count_apart zero f g apart = omega arith
count_apart (suc n) f g apart = go (f n) (g n) (apart n) (count_apart n f g apart)
  where
    go : (a b : Bool) → a && b ≡ false → count_below n f + count_below n g ≤ n → count_below n f + cond a 1 0 + (count_below n g + cond b 1 0) ≤ suc n
    go true true e h = absurd (true≢false e)
    go true false e h = omega arith
    go false true e h = omega arith
    go false false e h = omega arith

-- no byte is open and a cause, so no slot is struck and reopened at once
never_both : (x : ℕ) → eqb x 255 && ltb x 64 ≡ false
never_both x = go (ℕ_discrete x 255)
  where
    go : Dec (x ≡ 255) → eqb x 255 && ltb x 64 ≡ false
    go (yes e) = rw e refl
    go (no ne) = rw (ne_eqb x 255 ne) refl

pub changes_few : (before after : List ℕ) → struck_between before after + reopened_between before after ≤ slots_length
changes_few before after =
    count_apart slots_length (λ i. open? before (i / 32) (i % 32) && struck? after (i / 32) (i % 32)) (λ i. struck? before (i / 32) (i % 32) && open? after (i / 32) (i % 32))
    (λ i. go (open? before (i / 32) (i % 32)) (struck? after (i / 32) (i % 32)) (struck? before (i / 32) (i % 32)) (open? after (i / 32) (i % 32))
    (never_both (cause_of before (i / 32) (i % 32))))
  where
    go : (p q r t : Bool) → p && r ≡ false → (p && q) && (r && t) ≡ false
    go false q r t e = refl
    go true false r t e = refl
    go true true true t e = absurd (true≢false e)
    go true true false t e = refl
