-- Laws of the mask: its bound, what one slot more does to it, the weights of a table that keeps the rule, and the number of ones. Assumes nothing.
use Rattle.std.specs.Prelude.{◌≡◌, refl, Bool, true, false, cond, List, ℕ, zero, suc, ◌+◌, ◌*◌, ◌^◌, ◌<◌, ◌≤◌, get_or, T, eqb}
use Rattle.std.proofs.Common.{sym, ap, ap₂, ◌∙◌, pow-suc, add-one, arith, pow_mono, eqb→eq}
use Rattle.std.proofs.Math.Arith.{digits_div, digits_mod}
use Rattle.std.specs.Int.Count.{ones, ones_step}
use Rattle.model.specs.Tests.{count_below}
use Rattle.model.specs.Questions.{mask_of}
use Rattle.model.proofs.Laws.Tests.{every→}
use Rattle.model.proofs.Laws.Masks.{mask_lowest}
use Rattle.questions.specs.Mask.{digit, SummedTo, Weights, weights?}

pub digit_below : (b : Bool) → digit b < 2
digit_below true = omega arith
digit_below false = omega arith

-- a mask of n slots is below 2 to the n
pub mask_below : (n : ℕ) (f : ℕ → Bool) → mask_of n f < 2 ^ n
mask_below zero f = omega arith
mask_below (suc n) f = go (f n) (mask_below n f)
  where
    go : (b : Bool) → mask_of n f < 2 ^ n → mask_of n f + cond b (2 ^ n) 0 < 2 ^ suc n
    go true h = omega (arith, pow-suc 2 n)
    go false h = omega (arith, pow-suc 2 n)

-- a table that passes the test keeps the rule at each entry
pub weights_tested : (table : List ℕ) → T (weights? table) → Weights table
weights_tested table passes =
    record { each = λ s h. eqb→eq (get_or table s 0) (2 ^ s) (every→ 32 (λ s. eqb (get_or table s 0) (2 ^ s)) passes s h) }

-- THE MASK, SLOT BY SLOT: slot n passes, and adds its weight by the table
pub summed_none : (f : ℕ → Bool) → SummedTo f 0 0
summed_none f = record { few = omega arith; is = refl }

pub summed_more : {f : ℕ → Bool} {n m : ℕ} {table : List ℕ} → SummedTo f n m → n < 32 → Weights table → f n ≡ true → SummedTo f (n + 1) (m + get_or table n 0)
summed_more {f} {n} {m} {table} x h weights passes =
    record { few = omega arith; is = sum x.is (weights.each n h ∙ sym (ap (λ (b : Bool). cond b (2 ^ n) 0) passes)) ∙ sym (ap (λ (k : ℕ). mask_of k f) (add-one n)) }
  where
    sum : {a b c d : ℕ} → a ≡ b → c ≡ d → a + c ≡ b + d
    sum p q = cc

-- a mask of 32 slots or fewer fits 32 bits
pub summed_fits : {f : ℕ → Bool} {n m : ℕ} → SummedTo f n m → m < 4294967296
summed_fits {f} {n} x = let most : 2 ^ n ≤ 2 ^ 32 = pow_mono x.few in omega (arith, x.is, mask_below n f)

pub summed_all : {f : ℕ → Bool} {n m : ℕ} → SummedTo f n m → 32 ≤ n → m ≡ mask_of 32 f
summed_all {f} {n} x g = let e : n ≡ 32 = omega (arith, x.few) in x.is ∙ ap (λ (k : ℕ). mask_of k f) e

-- the count, with the lowest slot apart
count_lowest : (n : ℕ) (f : ℕ → Bool) → count_below (suc n) f ≡ count_below n (λ i. f (suc i)) + digit (f 0)
count_lowest zero f = refl
count_lowest (suc n) f = rw (count_lowest n f) (omega arith)

-- THE NUMBER OF ONES in a mask is the number of slots that pass
pub ones_mask : (n : ℕ) (f : ℕ → Bool) → ones (mask_of n f) ≡ count_below n f
unfolding ones
ones_mask zero f = refl
ones_mask (suc n) f =
    ap ones (mask_lowest n f)
    ∙ ones_step (mask_of n (λ i. f (suc i)) * 2 + digit (f 0))
    ∙ ap₂ (λ (x y : ℕ). x + ones y) (digits_mod (mask_of n (λ i. f (suc i))) (digit_below (f 0))) (digits_div (mask_of n (λ i. f (suc i))) (digit_below (f 0)))
    ∙ ap (λ (x : ℕ). digit (f 0) + x) (ones_mask n (λ i. f (suc i)))
    ∙ omega (arith, count_lowest n f)
