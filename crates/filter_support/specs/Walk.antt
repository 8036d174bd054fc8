-- The walk by masks over a rule's rows: what it kills, by the struck slots of each column, and what it finds, the slots of each column that stand in a living row.
use Rattle.std.specs.Prelude.{◌≡◌, List, ◌⊎◌, cond, ℕ, ◌*◌, ◌≤◌, ◌<◌, eqb}
use Rattle.std.specs.Int.Bits.{bit_and, bit_or}
use Rattle.tables.specs.Masks.{IsMask}
use Rattle.tables.specs.Sweep.{One, Swept}
use Rattle.layout.specs.Places.{call_of, slot_of, killer_of, cause_of}
use Rattle.masks.specs.declared.columns.Columns.{Columns}
use Rattle.masks.specs.Columns.{column_of, InColumn}
use Rattle.filter_support.specs.Rows.{Support}

-- m is the mask of the struck slots of column k's call; of none past the n columns
pub record StruckSet (slots scope : List ℕ) (p n k m : ℕ) : Type 0 where
  pub here : k < n → IsMask (λ s. cause_of slots (call_of scope p k) s < 64) 32 m
  pub past : n ≤ k → m ≡ 0

-- the same for each column
pub record StruckSets (slots scope : List ℕ) (p n : ℕ) (x : Columns) : Type 0 where
  pub each : (k : ℕ) → k < 4 → StruckSet slots scope p n k (column_of x k)

-- r is the first column where two sets meet, or 255
pub record FirstMeeting (x y : Columns) (r : ℕ) : Type 0 where
  pub none : r ≡ 255 → (k : ℕ) → k < 4 → bit_and (column_of x k) (column_of y k) ≡ 0
  pub some : (r ≡ 255 → ⊥) → (r < 4) × (bit_and (column_of x r) (column_of y r) ≡ 0 → ⊥) × ((k : ℕ) → k < r → bit_and (column_of x k) (column_of y k) ≡ 0)

-- a dead row keeps its killer; a living one gets the new one
abbrev pub killer_now : ℕ → ℕ → ℕ
killer_now old new = cond (eqb old 255) new old

-- the set, where the row lives
abbrev pub alive_set : ℕ → ℕ → ℕ
alive_set killer x = cond (eqb killer 255) x 0

-- x is what is found, with the slots of a row where it lives
pub record WithRow (found row : Columns) (killer : ℕ) (x : Columns) : Type 0 where
  pub each : (k : ℕ) → k < 4 → column_of x k ≡ bit_or (column_of found k) (alive_set killer (column_of row k))

-- a row's killer: a dead row keeps it; a living row gets the first column whose slot is struck, if there is one
pub record MaskKilled (rows : List ℕ) (struck : Columns) (p w old new : ℕ) : Type 0 where
  pub dead : (old ≡ 255 → ⊥) → new ≡ old
  pub living : old ≡ 255 → ((new ≡ 255) × ((k : ℕ) → k < 4 → InColumn struck k (slot_of rows p w k) → ⊥))
      ⊎ ((new < 4) × InColumn struck new (slot_of rows p w new) × ((k : ℕ) → k < new → InColumn struck k (slot_of rows p w k) → ⊥))

-- row w is treated
pub record RowWalked (rows : List ℕ) (struck : Columns) (p w : ℕ) (killers killed : List ℕ) (found x : Columns) : Type 0 where
  pub kill : One 0 (MaskKilled rows struck p) (64 * p) w killers killed
  pub joins : (k : ℕ) → k < 4 → killer_of killed p w ≡ 255 → InColumn x k (slot_of rows p w k)
  pub stays : (k s : ℕ) → k < 4 → InColumn found k s → InColumn x k s
  pub only : (k s : ℕ) → k < 4 → InColumn x k s → InColumn found k s ⊎ ((killer_of killed p w ≡ 255) × (slot_of rows p w k ≡ s))

-- the first m rows are treated: the slots found are those with a support
pub record Walked (rows : List ℕ) (struck : Columns) (p m : ℕ) (killers killed : List ℕ) (x : Columns) : Type 0 where
  pub kills : Swept 0 (MaskKilled rows struck p) (64 * p) m killers killed
  pub has : (k s : ℕ) → k < 4 → Support rows killed p m k s → InColumn x k s
  pub only : (k s : ℕ) → k < 4 → InColumn x k s → Support rows killed p m k s

-- the same, of the first n columns
pub record WalkedColumns (rows : List ℕ) (struck : Columns) (p n m : ℕ) (killers killed : List ℕ) (x : Columns) : Type 0 where
  pub kills : Swept 0 (MaskKilled rows struck p) (64 * p) m killers killed
  pub has : (k s : ℕ) → k < n → Support rows killed p m k s → InColumn x k s
  pub only : (k s : ℕ) → k < n → InColumn x k s → Support rows killed p m k s
