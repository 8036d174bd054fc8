-- What holds of each column; a row's word; and a rule of fewer columns. Assumes nothing.
use Rattle.std.specs.Prelude.{◌≡◌, refl, cond, ltb, List, ℕ, zero, suc, ◌+◌, ◌/◌, ◌%◌, ◌≤◌, ◌<◌, get_or}
use Rattle.std.proofs.Common.{sym, ap, ap₂, ⊎_elim, add-zero, lt-ltb, le-ltb, arith}
use Rattle.tables.specs.Laws.Facts.{lt_or_le}
use Rattle.tables.specs.Laws.Masks.{bit_zero}
use Rattle.masks.specs.declared.columns.Columns.{Columns}
use Rattle.masks.specs.Columns.{column_of, InColumn, no_columns, first_columns, PastEmpty, word_at, ColumnSets}

-- WHAT HOLDS OF EACH of the four columns
pub four : (P : ℕ → Type 0) → P 0 → P 1 → P 2 → P 3 → (k : ℕ) → k < 4 → P k
four P a b c d zero l = a
four P a b c d (suc zero) l = b
four P a b c d (suc (suc zero)) l = c
four P a b c d (suc (suc (suc zero))) l = d
four P a b c d (suc (suc (suc (suc k)))) l = absurd (omega arith)

-- and of the first two and three
pub two : (P : ℕ → Type 0) → P 0 → P 1 → (k : ℕ) → k < 2 → P k
two P a b zero l = a
two P a b (suc zero) l = b
two P a b (suc (suc k)) l = absurd (omega arith)

pub three : (P : ℕ → Type 0) → P 0 → P 1 → P 2 → (k : ℕ) → k < 3 → P k
three P a b c zero l = a
three P a b c (suc zero) l = b
three P a b c (suc (suc zero)) l = c
three P a b c (suc (suc (suc k))) l = absurd (omega arith)

-- past the first three there is one column
pub column_last : (x : Columns) (k : ℕ) → (k ≡ 0 → ⊥) → (k ≡ 1 → ⊥) → (k ≡ 2 → ⊥) → column_of x k ≡ x.c3
column_last x zero a b c = absurd (a refl)
column_last x (suc zero) a b c = absurd (b refl)
column_last x (suc (suc zero)) a b c = absurd (c refl)
column_last x (suc (suc (suc k))) a b c = refl

-- no column has a slot of none
pub none_in : (k s : ℕ) → k < 4 → InColumn no_columns k s → ⊥
none_in k s l = four (λ j. InColumn no_columns j s → ⊥) zero_in zero_in zero_in zero_in k l
  where
    zero_in : InColumn no_columns 0 s → ⊥
    zero_in e = omega (arith, bit_zero s)

-- A ROW'S WORD: its parts are the row's bytes
pub record WordBytes (rows : List ℕ) (i x : ℕ) : Type 0 where
  pub first : x % 32 ≡ get_or rows (i + 0) 0 % 32
  pub second : x / 256 % 32 ≡ get_or rows (i + 1) 0 % 32
  pub third : x / 65536 % 32 ≡ get_or rows (i + 2) 0 % 32
  pub fourth : x / 16777216 % 32 ≡ get_or rows (i + 3) 0 % 32

-- so they are of the word at i, where every entry is a byte
pub word_bytes : (rows : List ℕ) (i x : ℕ) → ((j : ℕ) → get_or rows j 0 < 256) → x ≡ word_at rows i → WordBytes rows i x
word_bytes rows i x bytes e =
    let a = bytes i in
    let b = bytes (i + 1) in
    let c = bytes (i + 2) in
    let d = bytes (i + 3) in
    let z : get_or rows (i + 0) 0 ≡ get_or rows i 0 = ap (λ (j : ℕ). get_or rows j 0) (add-zero i) in
    record { first = omega arith; second = omega arith; third = omega arith; fourth = omega arith }

-- A RULE OF FEWER COLUMNS: without the others the sets are the same
module _ (m : ℕ) (least : 1 < m) (x : Columns) where
  pub first_same : (n : ℕ) → n ≤ m → PastEmpty n x → first_columns m x ≡ x
  first_same n few past = ap₂ (λ (a b : ℕ). record { c0 = x.c0; c1 = x.c1; c2 = a; c3 = b }) third fourth
    where
      third : cond (ltb 2 m) x.c2 0 ≡ x.c2
      third = ⊎_elim (λ l. rw (lt-ltb 2 m l) refl) (λ g. rw (le-ltb 2 m g) (sym (past 2 (omega arith) (omega arith)))) (lt_or_le 2 m)

      fourth : cond (ltb 3 m) x.c3 0 ≡ x.c3
      fourth = ⊎_elim (λ l. rw (lt-ltb 3 m l) refl) (λ g. rw (le-ltb 3 m g) (sym (past 3 (omega arith) (omega arith)))) (lt_or_le 3 m)

  -- and they are as they were
  pub first_in : (k : ℕ) → k < m → k < 4 → column_of (first_columns m x) k ≡ column_of x k
  first_in k l few =
      four (λ j. j < m → column_of (first_columns m x) j ≡ column_of x j) (λ h. refl) (λ h. refl) (λ h. rw (lt-ltb 2 m h) refl) (λ h. rw (lt-ltb 3 m h) refl) k few l

-- the sets of a rule's columns are empty past its own
pub sets_past : {sets scope : List ℕ} {p n : ℕ} {x : Columns} → ColumnSets sets scope p n x → PastEmpty n x
sets_past known k le lt = (known.each k lt).past le
