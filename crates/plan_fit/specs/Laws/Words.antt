-- WORDS OF FOUR BYTES: two of them are equal where their bytes are, and a mask of whole bytes keeps some of these and clears the others. Assumes nothing.
use Rattle.std.specs.Prelude.{◌≡◌, Bool, true, false, cond, ℕ, ◌+◌, ◌*◌, ◌^◌, ◌<◌}
use Rattle.std.proofs.Common.{ap, ap₂, ◌∙◌, arith}
use Rattle.std.specs.Int.Bits.{bit_and, and_zero_r}
use Rattle.std.proofs.lemmas.Nat.{and_block, and_mask}
use Rattle.masks.specs.Laws.Columns.{four}

-- the word of four bytes
abbrev pub word_of : (ℕ → ℕ) → ℕ
word_of d = d 0 + 256 * d 1 + 65536 * d 2 + 16777216 * d 3

abbrev pub Bytes : (ℕ → ℕ) → Type 0
Bytes d = (k : ℕ) → k < 4 → d k < 256

abbrev pub SameBytes : (ℕ → ℕ) → (ℕ → ℕ) → Type 0
SameBytes d t = (k : ℕ) → k < 4 → d k ≡ t k

pub same_bytes : (d t : ℕ → ℕ) → Bytes d → Bytes t → word_of d ≡ word_of t → SameBytes d t
same_bytes d t small small' e =
    let a = small 0 (omega arith) in
    let b = small 1 (omega arith) in
    let c = small 2 (omega arith) in
    let a' = small' 0 (omega arith) in
    let b' = small' 1 (omega arith) in
    let c' = small' 2 (omega arith) in
    four (λ k. d k ≡ t k) (omega arith) (omega arith) (omega arith) (omega arith)

pub same_word : (d t : ℕ → ℕ) → SameBytes d t → word_of d ≡ word_of t
same_word d t same = omega (arith, same 0 (omega arith), same 1 (omega arith), same 2 (omega arith), same 3 (omega arith))

-- a whole byte of a mask keeps a byte, and an empty one clears it
abbrev pub masked_by : (ℕ → ℕ) → (ℕ → Bool) → ℕ → ℕ
masked_by d m k = cond (m k) (d k) 0

byte_masked : (b : Bool) (n : ℕ) → n < 256 → bit_and n (cond b 255 0) ≡ cond b n 0
byte_masked true n h = and_mask n 8 ∙ omega arith
byte_masked false n h = and_zero_r n

pub byte_small : (b : Bool) → cond b 255 0 < 256
byte_small true = omega arith
byte_small false = omega arith

-- ONE AND FOR FOUR BYTES
pub and_word : (d : ℕ → ℕ) (m : ℕ → Bool) → Bytes d → bit_and (word_of d) (word_of (λ k. cond (m k) 255 0)) ≡ word_of (masked_by d m)
and_word d m small = ap₂ bit_and (nested d) (nested whole) ∙ split ∙ omega (arith, here 0 (omega arith), here 1 (omega arith), here 2 (omega arith), here 3 (omega arith))
  where
    whole : ℕ → ℕ
    whole k = cond (m k) 255 0

    nested : (e : ℕ → ℕ) → word_of e ≡ ((e 3 * 2 ^ 8 + e 2) * 2 ^ 8 + e 1) * 2 ^ 8 + e 0
    nested e = omega arith

    here : (k : ℕ) → k < 4 → bit_and (d k) (whole k) ≡ masked_by d m k
    here k h = byte_masked (m k) (d k) (small k h)

    split : bit_and (((d 3 * 2 ^ 8 + d 2) * 2 ^ 8 + d 1) * 2 ^ 8 + d 0) (((whole 3 * 2 ^ 8 + whole 2) * 2 ^ 8 + whole 1) * 2 ^ 8 + whole 0)
        ≡ ((bit_and (d 3) (whole 3) * 2 ^ 8 + bit_and (d 2) (whole 2)) * 2 ^ 8 + bit_and (d 1) (whole 1)) * 2 ^ 8 + bit_and (d 0) (whole 0)
    split =
        and_block 8 ((d 3 * 2 ^ 8 + d 2) * 2 ^ 8 + d 1) ((whole 3 * 2 ^ 8 + whole 2) * 2 ^ 8 + whole 1) (d 0) (whole 0) (small 0 (omega arith)) (byte_small (m 0))
        ∙ ap (λ (x : ℕ). x * 2 ^ 8 + bit_and (d 0) (whole 0))
        (and_block 8 (d 3 * 2 ^ 8 + d 2) (whole 3 * 2 ^ 8 + whole 2) (d 1) (whole 1) (small 1 (omega arith)) (byte_small (m 1))
        ∙ ap (λ (x : ℕ). x * 2 ^ 8 + bit_and (d 1) (whole 1)) (and_block 8 (d 3) (whole 3) (d 2) (whole 2) (small 2 (omega arith)) (byte_small (m 2))))
