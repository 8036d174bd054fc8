-- A mask as a table of flags, and several masks as one table. Assumes nothing.
use Rattle.std.specs.Prelude.{◌≡◌, refl, List, [], ◌∷◌, ◌++◌, Bool, true, false, ℕ, zero, suc, ◌+◌, ◌-◌, ◌*◌, ◌/◌, ◌%◌, ◌^◌, ◌≤◌, ◌<◌, eqb, length, get_or, set, replicate}
use Rattle.std.proofs.Common.{sym, ap, ap₂, ◌∙◌, ⊎_elim, mul-suc, mul-zero, mul-le-mul_left, pow-suc, arith, eq-eqb, ne_eqb, eqb-true, length-set, length-append, get_or-set_same, get_or-set_other, ext_get_or}
use Rattle.std.specs.Int.Count.{ones, ones_step}
use Rattle.std.proofs.lemmas.List.{length-replicate, get_or-replicate}
use Rattle.std.proofs.Math.ListN.{get_or-eq_default}
use Rattle.tables.specs.Count.{bit, count}
use Rattle.tables.specs.Masks.{bit_of, Has, flags_of, all_flags}
use Rattle.tables.specs.Laws.Count.{count_append}
use Rattle.tables.specs.Laws.Facts.{eq_or_ne, lt_or_le, true_false}
use Rattle.tables.specs.Laws.Masks.{bit_zero, has_some}

pub flags_length : (n m : ℕ) → length (flags_of n m) ≡ n
unfolding flags_of
flags_length zero m = refl
flags_length (suc n) m = ap suc (flags_length n (m / 2))

pub flags_at : (n m q : ℕ) → q < n → get_or (flags_of n m) q false ≡ eqb (bit_of m q) 1
unfolding flags_of bit_of
flags_at zero m q l = absurd (omega arith)
flags_at (suc n) m zero l = refl
flags_at (suc n) m (suc q) l = flags_at n (m / 2) q (omega arith)

-- a flag is set where the bit is 1, and clear where it is not
pub flag_set : (n m q : ℕ) → q < n → Has m q → get_or (flags_of n m) q false ≡ true
flag_set n m q l e = flags_at n m q l ∙ eq-eqb (bit_of m q) 1 e

pub flag_clear : (n m q : ℕ) → q < n → (Has m q → ⊥) → get_or (flags_of n m) q false ≡ false
flag_clear n m q l e = flags_at n m q l ∙ ne_eqb (bit_of m q) 1 e

pub flag_has : (n m q : ℕ) → q < n → get_or (flags_of n m) q false ≡ true → Has m q
flag_has n m q l e = eqb-true (bit_of m q) 1 (sym (flags_at n m q l) ∙ e)

-- it is one of the n
pub flag_below : (n m q : ℕ) → get_or (flags_of n m) q false ≡ true → q < n
flag_below n m q e =
    ⊎_elim
    (λ (l : q < n). l)
    (λ past. absurd (true_false e (get_or-eq_default (flags_of n m) false (omega (arith, flags_length n m)))))
    (lt_or_le q n)

-- the mask 0 has no flag
pub flags_none : (n : ℕ) → flags_of n 0 ≡ replicate n false
flags_none n =
    ext_get_or false (flags_of n 0) (replicate n false) (flags_length n 0 ∙ sym (length-replicate n false))
    (λ q lq.
    let l : q < n = omega (arith, flags_length n 0) in
    flag_clear n 0 q l (λ e. omega (arith, bit_zero q)) ∙ sym (get_or-replicate n q false false l))

-- where the bits of two masks differ in that of p alone, so do the flags
pub flags_set : (n m r p : ℕ) (b : Bool) → p < n → eqb (bit_of r p) 1 ≡ b → ((q : ℕ) → q < n → (q ≡ p → ⊥) → bit_of r q ≡ bit_of m q) → flags_of n r ≡ set (flags_of n m) p b
flags_set n m r p b lp is others =
    ext_get_or false (flags_of n r) (set (flags_of n m) p b) (flags_length n r ∙ sym (length-set (flags_of n m) p b ∙ flags_length n m))
    (λ q lq.
    let l : q < n = omega (arith, flags_length n r) in
    ⊎_elim
    (λ (e : q ≡ p). rw e (flags_at n r p lp ∙ is ∙ sym (get_or-set_same (flags_of n m) p b false (omega (arith, flags_length n m)))))
    (λ ne. flags_at n r q l ∙ ap (λ (x : ℕ). eqb x 1) (others q l ne) ∙ sym (get_or-set_other (flags_of n m) p q b false ne ∙ flags_at n m q l))
    (eq_or_ne q p))

-- SEVERAL MASKS: flag s of mask c stands at n * c + s
pub all_length : (n : ℕ) (ms : List ℕ) → length (all_flags n ms) ≡ n * length ms
unfolding all_flags
all_length n [] = omega arith
all_length n (m ∷ ms) = length-append (flags_of n m) (all_flags n ms) ∙ ap₂ (λ (x y : ℕ). x + y) (flags_length n m) (all_length n ms) ∙ omega (arith, mul-suc n (length ms))

-- the flags of the first mask, and those behind it
append_front : (n m s : ℕ) (rest : List Bool) → s < n → get_or (flags_of n m ++ rest) s false ≡ get_or (flags_of n m) s false
unfolding flags_of
append_front zero m s rest l = absurd (omega arith)
append_front (suc n) m zero rest l = refl
append_front (suc n) m (suc s) rest l = append_front n (m / 2) s rest (omega arith)

append_behind : (n m s : ℕ) (rest : List Bool) → get_or (flags_of n m ++ rest) (n + s) false ≡ get_or rest s false
unfolding flags_of
append_behind zero m s rest = let e : 0 + s ≡ s = omega arith in rw e refl
append_behind (suc n) m s rest = let e : suc n + s ≡ suc (n + s) = omega arith in rw e (append_behind n (m / 2) s rest)

pub all_at : (n : ℕ) (ms : List ℕ) (c s : ℕ) → c < length ms → s < n → get_or (all_flags n ms) (n * c + s) false ≡ eqb (bit_of (get_or ms c 0) s) 1
unfolding all_flags
all_at n [] c s lc ls = absurd (omega arith)
all_at n (m ∷ ms) zero s lc ls = let e : n * 0 + s ≡ s = omega (arith, mul-zero n) in rw e (append_front n m s (all_flags n ms) ls ∙ flags_at n m s ls)
all_at n (m ∷ ms) (suc c) s lc ls =
    let e : n * suc c + s ≡ n + (n * c + s) = omega (arith, mul-suc n c) in
    rw e (append_behind n m (n * c + s) (all_flags n ms) ∙ all_at n ms c s (omega arith) ls)

-- it is set exactly where the mask has the bit; past the masks there is no bit and no flag
module _ (n : ℕ) (ms : List ℕ) (c s : ℕ) (ls : s < n) where
  pub all_set : Has (get_or ms c 0) s → get_or (all_flags n ms) (n * c + s) false ≡ true
  all_set e =
      ⊎_elim
      (λ lc. all_at n ms c s lc ls ∙ eq-eqb (bit_of (get_or ms c 0) s) 1 e)
      (λ past. absurd (has_some (get_or ms c 0) s e (get_or-eq_default ms 0 past)))
      (lt_or_le c (length ms))

  pub all_has : get_or (all_flags n ms) (n * c + s) false ≡ true → Has (get_or ms c 0) s
  all_has e =
      ⊎_elim
      (λ lc. eqb-true (bit_of (get_or ms c 0) s) 1 (sym (all_at n ms c s lc ls) ∙ e))
      (λ past. absurd (true_false e (get_or-eq_default (all_flags n ms) false (omega (arith, all_length n ms, mul-le-mul_left n past)))))
      (lt_or_le c (length ms))

-- and a flag that is set is one of them
abbrev pub FlagOf : ℕ → List ℕ → ℕ → Type 0
FlagOf n ms j = (c s : ℕ) × (c < length ms) × (s < n) × (j ≡ n * c + s) × Has (get_or ms c 0) s

pub all_place : (n : ℕ) (ms : List ℕ) (j : ℕ) → get_or (all_flags n ms) j false ≡ true → FlagOf n ms j
unfolding all_flags
all_place n [] j o = absurd (true_false o refl)
all_place n (m ∷ ms) j o = ⊎_elim front (λ l. behind l (all_place n ms (j - n))) (lt_or_le j n)
  where
    front : j < n → FlagOf n (m ∷ ms) j
    front l = (0, j, omega arith, l, omega (arith, mul-zero n), flag_has n m j l (sym (append_front n m j (all_flags n ms) l) ∙ o))

    behind : n ≤ j → (get_or (all_flags n ms) (j - n) false ≡ true → FlagOf n ms (j - n)) → FlagOf n (m ∷ ms) j
    behind l rest =
        let e : n + (j - n) ≡ j = omega arith in
        let r = rest (sym (append_behind n m (j - n) (all_flags n ms)) ∙ (rw e o)) in
        let lc = r.2 in
        let is = r.4 in
        (suc r.0, r.1, omega arith, r.3, omega (arith, mul-suc n r.0), r.5)

-- THE NUMBER OF FLAGS that are set is that of the ones
pub count_flags : (n m : ℕ) → m < 2 ^ n → count (λ (b : Bool). b) (flags_of n m) ≡ ones m
unfolding flags_of ones
count_flags zero m h = let z : m ≡ 0 = omega arith in rw z refl
count_flags (suc n) m h =
    ap₂ (λ (x y : ℕ). x + y) (bit_of_lem (m % 2) (omega arith)) (count_flags n (m / 2) (omega (arith, pow-suc 2 n))) ∙ sym (ones_step m)
  where
    bit_of_lem : (x : ℕ) → x < 2 → bit (eqb x 1) ≡ x
    bit_of_lem zero l = refl
    bit_of_lem (suc zero) l = refl
    bit_of_lem (suc (suc x)) l = absurd (omega arith)

-- where one mask of several is replaced, its flags are taken from the count and those of the new one are added
pub count_all : (f : Bool → Bool) (n v : ℕ) (ms : List ℕ) (c : ℕ) → c < length ms
    → count f (all_flags n (set ms c v)) + count f (flags_of n (get_or ms c 0)) ≡ count f (all_flags n ms) + count f (flags_of n v)
unfolding all_flags
count_all f n v [] c l = absurd (omega arith)
count_all f n v (m ∷ ms) zero l = omega (arith, count_append f (flags_of n m) (all_flags n ms), count_append f (flags_of n v) (all_flags n ms))
count_all f n v (m ∷ ms) (suc c) l =
    omega
    (arith, count_append f (flags_of n m) (all_flags n ms), count_append f (flags_of n m) (all_flags n (set ms c v)), count_all f n v ms c (omega arith))
