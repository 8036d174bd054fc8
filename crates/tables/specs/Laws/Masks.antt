-- What the machine's operations on masks do to each bit. Assumes nothing.
use Rattle.std.specs.Prelude.{◌≡◌, refl, ◌⊎◌, ℕ, zero, suc, ◌+◌, ◌-◌, ◌*◌, ◌/◌, ◌%◌, ◌^◌, ◌≤◌, ◌<◌, min, max}
use Rattle.std.proofs.Common.{sym, ap, ap₂, ◌∙◌, inl, inr, ⊎_elim, pow-suc, mul_assoc, zero-mul, one-mul, arith, pow_pos, shl_exact, shr-shr}
use Rattle.std.proofs.Math.Arith.{digits_div, digits_mod}
use Rattle.std.specs.Int.Bits.{bit_and, bit_or, and_step, or_step, and_zero_l, and_self}
use Rattle.std.specs.Int.Count.{count_trailing_zeros, under}
use Rattle.tables.specs.Masks.{bit_of, Has, IsMask}
use Rattle.tables.specs.Laws.Facts.{eq_or_ne}

pub bit_below : (m s : ℕ) → bit_of m s < 2
unfolding bit_of
bit_below m zero = omega arith
bit_below m (suc s) = bit_below (m / 2) s

pub bit_zero : (s : ℕ) → bit_of 0 s ≡ 0
unfolding bit_of
bit_zero zero = refl
bit_zero (suc s) = bit_zero s

-- AND and OR, bit by bit
pub bit_and_lem : (a b s : ℕ) → bit_of (bit_and a b) s ≡ min (bit_of a s) (bit_of b s)
unfolding bit_of
bit_and_lem a b zero = ap (λ (x : ℕ). x % 2) (and_step a b) ∙ digits_mod (bit_and (a / 2) (b / 2)) (omega arith)
bit_and_lem a b (suc s) =
    ap (λ (x : ℕ). bit_of (x / 2) s) (and_step a b)
    ∙ ap (λ (x : ℕ). bit_of x s) (digits_div (bit_and (a / 2) (b / 2)) (omega arith))
    ∙ bit_and_lem (a / 2) (b / 2) s

pub bit_or_lem : (a b s : ℕ) → bit_of (bit_or a b) s ≡ max (bit_of a s) (bit_of b s)
unfolding bit_of
bit_or_lem a b zero = ap (λ (x : ℕ). x % 2) (or_step a b) ∙ digits_mod (bit_or (a / 2) (b / 2)) (omega arith)
bit_or_lem a b (suc s) =
    ap (λ (x : ℕ). bit_of (x / 2) s) (or_step a b)
    ∙ ap (λ (x : ℕ). bit_of x s) (digits_div (bit_or (a / 2) (b / 2)) (omega arith))
    ∙ bit_or_lem (a / 2) (b / 2) s

-- THE MASK OF ONE NUMBER
pub power_same : (t : ℕ) → bit_of (2 ^ t) t ≡ 1
unfolding bit_of
power_same zero = refl
power_same (suc t) = let e : 2 ^ suc t / 2 ≡ 2 ^ t = omega (arith, pow-suc 2 t) in ap (λ (x : ℕ). bit_of x t) e ∙ power_same t

pub power_other : (t s : ℕ) → (s ≡ t → ⊥) → bit_of (2 ^ t) s ≡ 0
unfolding bit_of
power_other zero zero n = absurd (n refl)
power_other zero (suc s) n = bit_zero s
power_other (suc t) zero n = omega (arith, pow-suc 2 t)
power_other (suc t) (suc s) n =
    let e : 2 ^ suc t / 2 ≡ 2 ^ t = omega (arith, pow-suc 2 t) in
    ap (λ (x : ℕ). bit_of x s) e ∙ power_other t s (λ h. n (ap suc h))

-- it meets another mask where that has its bit
pub and_power : (t d : ℕ) → bit_and (2 ^ t) d ≡ bit_of d t * 2 ^ t
unfolding bit_of
and_power zero d = and_step 1 d ∙ omega (arith, and_zero_l (d / 2))
and_power (suc t) d =
    let h : 2 ^ suc t / 2 ≡ 2 ^ t = omega (arith, pow-suc 2 t) in
    let l : 2 ^ suc t % 2 ≡ 0 = omega (arith, pow-suc 2 t) in
    and_step (2 ^ suc t) d
    ∙ ap₂ (λ (x y : ℕ). bit_and x (d / 2) * 2 + min y (d % 2)) h l
    ∙ ap (λ (x : ℕ). x * 2 + min 0 (d % 2)) (and_power t (d / 2))
    ∙ omega (arith, ap (λ (x : ℕ). bit_of (d / 2) t * x) (pow-suc 2 t), mul_assoc (bit_of (d / 2) t) (2 ^ t) 2)

-- so they do not meet where it has not, and do where it has
pub apart_clear : (t d : ℕ) → bit_and (2 ^ t) d ≡ 0 → bit_of d t ≡ 0
apart_clear t d e =
    let m = bit_and_lem (2 ^ t) d t in
    let z : bit_of (bit_and (2 ^ t) d) t ≡ 0 = ap (λ (x : ℕ). bit_of x t) e ∙ bit_zero t in
    omega (arith, power_same t, bit_below d t)

pub clear_apart : (t d : ℕ) → bit_of d t ≡ 0 → bit_and (2 ^ t) d ≡ 0
clear_apart t d e = and_power t d ∙ ap (λ (x : ℕ). x * 2 ^ t) e ∙ zero-mul (2 ^ t)

-- a shift of 1 by less than the width loses nothing
pub shl_one : (k t : ℕ) → t < k → 1 * 2 ^ t % 2 ^ k ≡ 2 ^ t
shl_one k t l = shl_exact {a = 1} 1 t k (omega arith) (omega arith) ∙ one-mul (2 ^ t)

-- A BIT MOVED UP to place s
pub shifted_same : (b s : ℕ) → b < 2 → bit_of (b * 2 ^ s) s ≡ b
shifted_same zero s l = ap (λ (x : ℕ). bit_of x s) (zero-mul (2 ^ s)) ∙ bit_zero s
shifted_same (suc zero) s l = ap (λ (x : ℕ). bit_of x s) (one-mul (2 ^ s)) ∙ power_same s
shifted_same (suc (suc b)) s l = absurd (omega arith)

pub shifted_other : (b s j : ℕ) → b < 2 → (j ≡ s → ⊥) → bit_of (b * 2 ^ s) j ≡ 0
shifted_other zero s j l n = ap (λ (x : ℕ). bit_of x j) (zero-mul (2 ^ s)) ∙ bit_zero j
shifted_other (suc zero) s j l n = ap (λ (x : ℕ). bit_of x j) (one-mul (2 ^ s)) ∙ power_other s j n
shifted_other (suc (suc b)) s j l n = absurd (omega arith)

-- NOT, of a number of k bits
pub bit_not : (k a s : ℕ) → a < 2 ^ k → s < k → bit_of ((2 ^ k - 1) - a) s ≡ 1 - bit_of a s
unfolding bit_of
bit_not zero a s h l = absurd (omega arith)
bit_not (suc k) a zero h l = let p = pow-suc 2 k in omega (arith, pow_pos k)
bit_not (suc k) a (suc s) h l =
    let p = pow-suc 2 k in
    let e : ((2 ^ suc k - 1) - a) / 2 ≡ (2 ^ k - 1) - a / 2 = omega (arith, pow_pos k) in
    ap (λ (x : ℕ). bit_of x s) e ∙ bit_not k (a / 2) s (omega arith) (omega arith)

-- THE LOWEST BIT that is 1, and the number without it
pub record Lowest (k m t rest : ℕ) : Type 0 where
  pub place : t < k
  pub here : bit_of m t ≡ 1
  pub gone : bit_of rest t ≡ 0
  pub others : (s : ℕ) → (s ≡ t → ⊥) → bit_of rest s ≡ bit_of m s

odd : (k m : ℕ) → m % 2 ≡ 1 → Lowest (suc k) m (count_trailing_zeros (suc k) m) (bit_and m (m - 1))
unfolding bit_of count_trailing_zeros
odd k m h =
    let e : count_trailing_zeros (suc k) m ≡ 0 = ap (λ (x : ℕ). under x (count_trailing_zeros k (m / 2))) h in
    let same : (m - 1) / 2 ≡ m / 2 = omega arith in
    let r : bit_and m (m - 1) ≡ m / 2 * 2 =
    and_step m (m - 1) ∙ ap (λ (x : ℕ). bit_and (m / 2) x * 2 + min (m % 2) ((m - 1) % 2)) same
    ∙ omega (arith, and_self (m / 2)) in
    rw (e, r) (record { place = omega arith; here = h; gone = omega arith; others = other })
  where
    other : (s : ℕ) → (s ≡ 0 → ⊥) → bit_of (m / 2 * 2) s ≡ bit_of m s
    other zero n = absurd (n refl)
    other (suc s) n = let e : m / 2 * 2 / 2 ≡ m / 2 = omega arith in ap (λ (x : ℕ). bit_of x s) e

even : (k m : ℕ) → m < 2 ^ suc k → 0 < m → (m / 2 < 2 ^ k → 0 < m / 2 → Lowest k (m / 2) (count_trailing_zeros k (m / 2)) (bit_and (m / 2) (m / 2 - 1)))
    → (m % 2 ≡ 1 → ⊥) → Lowest (suc k) m (count_trailing_zeros (suc k) m) (bit_and m (m - 1))
unfolding bit_of count_trailing_zeros
even k m h p rest n =
    let z : m % 2 ≡ 0 = omega arith in
    let l = rest (omega (arith, pow-suc 2 k)) (omega arith) in
    let lt = l.place in
    let e : count_trailing_zeros (suc k) m ≡ suc (count_trailing_zeros k (m / 2)) = ap (λ (x : ℕ). under x (count_trailing_zeros k (m / 2))) z in
    let less : (m - 1) / 2 ≡ m / 2 - 1 = omega arith in
    let r : bit_and m (m - 1) ≡ bit_and (m / 2) (m / 2 - 1) * 2 =
    and_step m (m - 1) ∙ ap (λ (x : ℕ). bit_and (m / 2) x * 2 + min (m % 2) ((m - 1) % 2)) less ∙ omega arith in
    let half : bit_and (m / 2) (m / 2 - 1) * 2 / 2 ≡ bit_and (m / 2) (m / 2 - 1) = omega arith in
    rw (e, r)
    (record {
      place = omega arith;
      here = l.here;
      gone = ap (λ (x : ℕ). bit_of x (count_trailing_zeros k (m / 2))) half ∙ l.gone;
      others = other z half l.others;
    })
  where
    other : m % 2 ≡ 0 → bit_and (m / 2) (m / 2 - 1) * 2 / 2 ≡ bit_and (m / 2) (m / 2 - 1)
        → ((s : ℕ) → (s ≡ count_trailing_zeros k (m / 2) → ⊥) → bit_of (bit_and (m / 2) (m / 2 - 1)) s ≡ bit_of (m / 2) s)
        → (s : ℕ) → (s ≡ suc (count_trailing_zeros k (m / 2)) → ⊥) → bit_of (bit_and (m / 2) (m / 2 - 1) * 2) s ≡ bit_of m s
    other z half others zero n = omega arith
    other z half others (suc s) n = ap (λ (x : ℕ). bit_of x s) half ∙ others s (λ h. n (ap suc h))

pub lowest : (k m : ℕ) → m < 2 ^ k → 0 < m → Lowest k m (count_trailing_zeros k m) (bit_and m (m - 1))
lowest zero m h p = absurd (omega arith)
lowest (suc k) m h p = ⊎_elim (odd k m) (even k m h p (lowest k (m / 2))) (eq_or_ne (m % 2) 1)

-- WHERE A BIT IS 1: below k, in a number of k bits; and a mask that is not 0 has one
pub has_below : (k m s : ℕ) → m < 2 ^ k → Has m s → s < k
unfolding bit_of
has_below zero m s h e = let z : m ≡ 0 = omega arith in absurd (omega (arith, ap (λ (x : ℕ). bit_of x s) z, bit_zero s))
has_below (suc k) m zero h e = omega arith
has_below (suc k) m (suc s) h e = let l = has_below k (m / 2) s (omega (arith, pow-suc 2 k)) e in omega arith

pub has_some : (m s : ℕ) → Has m s → m ≡ 0 → ⊥
has_some m s e z = omega (arith, ap (λ (x : ℕ). bit_of x s) z, bit_zero s)

pub some_has : (k m : ℕ) → m < 2 ^ k → (m ≡ 0 → ⊥) → (s : ℕ) × (s < k) × Has m s
some_has k m h n = let l = lowest k m h (omega arith) in (count_trailing_zeros k m, l.place, l.here)

pub has_or_not : (m s : ℕ) → Has m s ⊎ (Has m s → ⊥)
has_or_not m s = eq_or_ne (bit_of m s) 1

pub not_has : (m s : ℕ) → (Has m s → ⊥) → bit_of m s ≡ 0
not_has m s n = ⊎_elim (λ (e : bit_of m s ≡ 0). e) (λ (o : bit_of m s ≡ 0 → ⊥). let b = bit_below m s in absurd (n (omega arith))) (eq_or_ne (bit_of m s) 0)

-- A SHIFT DOWN by p takes the bits from p on
pub bit_above : (m p s : ℕ) → bit_of (m / 2 ^ p) s ≡ bit_of m (p + s)
unfolding bit_of
bit_above m zero s = let e : m / 2 ^ 0 ≡ m = omega arith in let z : 0 + s ≡ s = omega arith in rw (e, z) refl
bit_above m (suc p) s =
    let e : m / 2 ^ suc p ≡ m / 2 / 2 ^ p = sym (shr-shr m 1 p ∙ ap (λ (x : ℕ). m / 2 ^ x) (omega arith)) in
    let z : suc p + s ≡ suc (p + s) = omega arith in
    rw (e, z) (bit_above (m / 2) p s)

-- OR holds what either holds
pub or_left : (a b s : ℕ) → Has a s → Has (bit_or a b) s
or_left a b s h = omega (arith, bit_or_lem a b s, bit_below b s)

pub or_right : (a b s : ℕ) → Has b s → Has (bit_or a b) s
or_right a b s h = omega (arith, bit_or_lem a b s, bit_below a s)

pub or_either : (a b s : ℕ) → Has (bit_or a b) s → Has a s ⊎ Has b s
or_either a b s h = ⊎_elim (λ x. inl x) (λ (n : Has a s → ⊥). inr (omega (arith, bit_or_lem a b s, not_has a s n))) (has_or_not a s)

-- AND what both hold
pub and_has : (a b s : ℕ) → Has a s → Has b s → Has (bit_and a b) s
and_has a b s g h = omega (arith, bit_and_lem a b s)

pub and_both : (a b s : ℕ) → Has (bit_and a b) s → Has a s × Has b s
and_both a b s h = (omega (arith, bit_and_lem a b s, bit_below a s), omega (arith, bit_and_lem a b s, bit_below b s))

-- NOT what a number of k bits does not
pub not_clear : (k a s : ℕ) → a < 2 ^ k → s < k → (Has a s → ⊥) → Has ((2 ^ k - 1) - a) s
not_clear k a s h l n = omega (arith, bit_not k a s h l, not_has a s n)

pub clear_not : (k a s : ℕ) → a < 2 ^ k → s < k → Has ((2 ^ k - 1) - a) s → Has a s → ⊥
clear_not k a s h l n e = omega (arith, bit_not k a s h l)

-- and a power of 2 its exponent alone
pub power_has : (t s : ℕ) → Has (2 ^ t) s → s ≡ t
power_has t s h = ⊎_elim (λ (e : s ≡ t). e) (λ n. absurd (omega (arith, power_other t s n))) (eq_or_ne s t)

-- MASKS OF A TEST, grown number by number
module _ (P : ℕ → Type 0) where
  pub mask_none : IsMask P 0 0
  mask_none = record { has = λ s l p. absurd (omega arith); only = λ s e. absurd (omega (arith, bit_zero s)) }

  -- one number more, whose bit b says whether it is in the set
  pub mask_more : {n m b : ℕ} → b < 2 → (P n → b ≡ 1) → (b ≡ 1 → P n) → IsMask P n m → IsMask P (n + 1) (bit_or m (b * 2 ^ n))
  mask_more {n} {m} {b} small sets is x = record { has = has; only = only }
    where
      has : (s : ℕ) → s < n + 1 → P s → Has (bit_or m (b * 2 ^ n)) s
      has s ls p =
          ⊎_elim
          (λ (e : s ≡ n).
          let y = sets (rw e at p) in
          let z : bit_of (b * 2 ^ n) s ≡ b = rw e (shifted_same b n small) in
          or_right m (b * 2 ^ n) s (z ∙ y))
          (λ ne. or_left m (b * 2 ^ n) s (x.has s (omega arith) p))
          (eq_or_ne s n)

      only : (s : ℕ) → Has (bit_or m (b * 2 ^ n)) s → (s < n + 1) × P s
      only s e =
          ⊎_elim
          (λ h. let f = x.only s h in let g = f.0 in (omega arith, f.1))
          (λ (h : Has (b * 2 ^ n) s).
          ⊎_elim
          (λ (q : s ≡ n). (omega arith, rw q (is (sym (shifted_same b n small) ∙ (rw q at h)))))
          (λ ne. absurd (omega (arith, shifted_other b n s small ne)))
          (eq_or_ne s n))
          (or_either m (b * 2 ^ n) s e)

  -- after the last round, where the loop's test says that n is k
  pub mask_at : {n k m : ℕ} → IsMask P n m → n ≤ k → k ≤ n → IsMask P k m
  mask_at {n} {k} x l g = let e : k ≡ n = omega arith in rw e x

-- the test may be put in other words
pub mask_in : {P Q : ℕ → Type 0} {n m : ℕ} → ((s : ℕ) → s < n → Q s → P s) → ((s : ℕ) → s < n → P s → Q s) → IsMask P n m → IsMask Q n m
mask_in back forth x = record { has = λ s l q. x.has s l (back s l q); only = λ s e. let f = x.only s e in (f.0, forth s f.0 f.1) }
