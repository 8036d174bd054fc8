-- WHAT THE SEARCH LOOKS UP, off the value and the bytes, whatever they hold: tables by the number of a call, of a column or of a rule.
use Rattle.std.specs.Prelude.{◌≡◌, List, [], ◌∷◌, ℕ, ◌+◌, ◌*◌, ◌/◌, ◌%◌, ◌<◌, length, get_or}
use Rattle.tables.specs.Masks.{IsMask}
use Rattle.std.specs.Int.Bits.{bit_and}
use Rattle.layout.specs.Places.{cause_of, row_start, rows_of}
use Rattle.layout.specs.declared.value.Heads.{Heads}
use Rattle.layout.specs.Memory.{State}
use Rattle.plan_model.specs.Plans.{slots_on_in}
use Rattle.masks.specs.Columns.{word_at}
use Rattle.plan_fit.specs.Words.{column_call, mask_byte}

-- A TABLE of so many entries, the first n of which have P
pub record Entries (P : ℕ → ℕ → Type 0) (size n : ℕ) (l : List ℕ) : Type 0 where
  pub long : length l ≡ size
  pub each : (i : ℕ) → i < n → P i (get_or l i 0)

-- how many slots each call has in a plan: 0 for one that is not to be laid
abbrev pub CallSlots : State → List ℕ → Type 0
CallSlots s calls = Entries (λ c v. v ≡ slots_on_in s c) 32 32 calls

-- the open slots of each call
abbrev pub OpenMasks : List ℕ → List ℕ → Type 0
OpenMasks slots opened = Entries (λ c m. IsMask (λ s. cause_of slots c s ≡ 255) 32 m) 32 32 opened

-- the call of each column of each rule, 255 where the column does not count: four entries to a rule
abbrev pub RuleColumns : Heads → List ℕ → List ℕ → Type 0
RuleColumns heads slots columns = Entries (λ i v. v ≡ column_call heads slots (i / 4) (i % 4)) 256 256 columns

-- those of rule p
abbrev pub columns_at : List ℕ → ℕ → List ℕ
columns_at columns p = get_or columns (4 * p) 0 ∷ get_or columns (4 * p + 1) 0 ∷ get_or columns (4 * p + 2) 0 ∷ get_or columns (4 * p + 3) 0 ∷ []

-- and as a word that has all bits of each column that counts
abbrev pub mask_by : List ℕ → ℕ → ℕ
mask_by columns p =
    mask_byte (get_or columns (4 * p) 0) + 256 * mask_byte (get_or columns (4 * p + 1) 0) + 65536 * mask_byte (get_or columns (4 * p + 2) 0)
    + 16777216 * mask_byte (get_or columns (4 * p + 3) 0)

-- A WORD FOR EACH ROW that there can be, 64 to a rule
abbrev pub words_length : ℕ
words_length = 4096

-- the first n rows of rule p are made words, in the columns of the mask; those of the rules before it stay
pub record WordsMade (rows : List ℕ) (p mask n : ℕ) (old new : List ℕ) : Type 0 where
  pub long : length new ≡ length old
  pub here : (w : ℕ) → w < n → get_or new (64 * p + w) 0 ≡ bit_and (word_at rows (row_start p w)) mask
  pub before : (j : ℕ) → j < 64 * p → get_or new j 0 ≡ get_or old j 0

-- THE ROWS AS WORDS, of the first n rules, with 0 in the columns that do not count
pub record RowWords (rows lengths columns : List ℕ) (n : ℕ) (words : List ℕ) : Type 0 where
  pub long : length words ≡ words_length
  pub each : (p : ℕ) → p < n → (w : ℕ) → w < rows_of lengths p → get_or words (64 * p + w) 0 ≡ bit_and (word_at rows (row_start p w)) (mask_by columns p)
