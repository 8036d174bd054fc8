-- THE BITS OF A MASK are the tests that it was made of: seen from its lowest slot, a mask is twice the mask of the others and that slot's digit. Assumes nothing.
use Rattle.std.specs.Prelude.{◌≡◌, refl, Bool, true, false, cond, ℕ, zero, suc, ◌+◌, ◌*◌, ◌/◌, ◌%◌, ◌^◌, ◌<◌, ◌≤◌, T, eqb}
use Rattle.std.proofs.Common.{ap, ◌∙◌, pow-suc, arith}
use Rattle.model.specs.Questions.{mask_of, bit?}

-- masks of tests that agree
pub mask_same : (n : ℕ) (f g : ℕ → Bool) → ((i : ℕ) → i < n → f i ≡ g i) → mask_of n f ≡ mask_of n g
mask_same zero f g same = refl
mask_same (suc n) f g same = let e = mask_same n f g (λ i h. same i (omega arith)) in let d = same n (omega arith) in rw (e, d) refl

-- a mask with its lowest slot apart
pub mask_lowest : (n : ℕ) (f : ℕ → Bool) → mask_of (suc n) f ≡ mask_of n (λ i. f (suc i)) * 2 + cond (f 0) 1 0
mask_lowest zero f = omega arith
mask_lowest (suc n) f = rw (mask_lowest n f) (go (f (suc n)))
  where
    go : (b : Bool)
        → mask_of n (λ i. f (suc i)) * 2 + cond (f 0) 1 0 + cond b (2 ^ suc n) 0 ≡ (mask_of n (λ i. f (suc i)) + cond b (2 ^ n) 0) * 2 + cond (f 0) 1 0
    go true = omega (arith, pow-suc 2 n)
    go false = omega arith

lowest_bit : (m : ℕ) (b : Bool) → bit? (m * 2 + cond b 1 0) 0 ≡ b
lowest_bit m true = let e : (m * 2 + 1) % 2 ≡ 1 = omega arith in ap (λ (x : ℕ). eqb x 1) e
lowest_bit m false = let e : (m * 2 + 0) % 2 ≡ 0 = omega arith in ap (λ (x : ℕ). eqb x 1) e

halved : (m : ℕ) (b : Bool) → (m * 2 + cond b 1 0) / 2 ≡ m
halved m true = omega arith
halved m false = omega arith

-- a bit of another slot is one of the mask without the lowest
higher_bit : (n : ℕ) (f : ℕ → Bool) (t : ℕ) → bit? (mask_of (suc n) f) (suc t) ≡ bit? (mask_of n (λ i. f (suc i))) t
higher_bit n f t =
    ap (λ (m : ℕ). bit? (m / 2) t) (mask_lowest n f) ∙ ap (λ (m : ℕ). bit? m t) (halved (mask_of n (λ i. f (suc i))) (f 0))

-- BIT t is the test at t, and 0 past the mask's slots
pub bit_below : (n : ℕ) (f : ℕ → Bool) (t : ℕ) → t < n → bit? (mask_of n f) t ≡ f t
bit_below zero f t h = absurd (omega arith)
bit_below (suc n) f zero h = ap (λ (m : ℕ). bit? m 0) (mask_lowest n f) ∙ lowest_bit (mask_of n (λ i. f (suc i))) (f 0)
bit_below (suc n) f (suc t) h = higher_bit n f t ∙ bit_below n (λ i. f (suc i)) t (omega arith)

pub bit_past : (n : ℕ) (f : ℕ → Bool) (t : ℕ) → n ≤ t → bit? (mask_of n f) t ≡ false
bit_past zero f zero h = refl
bit_past zero f (suc t) h = bit_past zero f t (omega arith)
bit_past (suc n) f zero h = absurd (omega arith)
bit_past (suc n) f (suc t) h = higher_bit n f t ∙ bit_past n (λ i. f (suc i)) t (omega arith)

-- A MASK WITHOUT A BIT is 0: so is its half, and it is not 1
pub no_bits : (n m : ℕ) → m ≤ n → ((t : ℕ) → T (bit? m t) → ⊥) → m ≡ 0
no_bits zero m le clear = omega arith
no_bits (suc n) m le clear = go m clear (no_bits n (m / 2) (omega arith) (λ t. clear (suc t)))
  where
    go : (m : ℕ) → ((t : ℕ) → T (bit? m t) → ⊥) → m / 2 ≡ 0 → m ≡ 0
    go zero clear half = refl
    go (suc zero) clear half = absurd (clear 0 tt)
    go (suc (suc m)) clear half = absurd (omega arith)
