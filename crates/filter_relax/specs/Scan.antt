-- What the walk over a rule's rows finds by masks, and which slots it makes visited: those that a row of the rule justifies by a slot that is visited.
use Rattle.std.specs.Prelude.{◌≡◌, List, ◌⊎◌, Bool, true, cond, ℕ, ◌≤◌, ◌<◌, eqb, get_or}
use Rattle.std.specs.Int.Bits.{bit_and, bit_or}
use Rattle.tables.specs.Masks.{Has, IsMask}
use Rattle.masks.specs.declared.columns.Columns.{Columns}
use Rattle.masks.specs.Columns.{column_of, InColumn, ColumnSets}
use Rattle.filter_propagate.specs.Queue.{IsFlagged}
use Rattle.filter_relax.specs.Reach.{Reach}
use Rattle.filter_relax.specs.Spread.{Spread}
use Rattle.layout.specs.Places.{call_of, slot_of, killer_of, cause_of}

-- r is not 0 exactly where the killer is one of four columns in which the row meets the sets
pub record KillerBits (row sets : Columns) (killer r : ℕ) : Type 0 where
  pub met : (r ≡ 0 → ⊥) → (killer < 4) × (bit_and (column_of row killer) (column_of sets killer) ≡ 0 → ⊥)
  pub apart : r ≡ 0 → killer < 4 → bit_and (column_of row killer) (column_of sets killer) ≡ 0

-- the slots found, and those of the row where it is hit
pub record WithHit (found row : Columns) (hit : ℕ) (x : Columns) : Type 0 where
  pub each : (k : ℕ) → k < 4 → column_of x k ≡ bit_or (column_of found k) (cond (eqb hit 0) 0 (column_of row k))

-- killer byte x of row w of rule q is one of four columns, and its slot is in the sets
pub record KillerMet (rows : List ℕ) (sets : Columns) (q w x : ℕ) : Type 0 where
  pub column : x < 4
  pub slot : InColumn sets x (slot_of rows q w x)

-- one row is treated: its slots are found where its killer's slot is in the sets
pub record RowScanned (rows killers : List ℕ) (sets : Columns) (q w : ℕ) (found x : Columns) : Type 0 where
  pub joins : (k : ℕ) → k < 4 → KillerMet rows sets q w (killer_of killers q w) → InColumn x k (slot_of rows q w k)
  pub stays : (k s : ℕ) → k < 4 → InColumn found k s → InColumn x k s
  pub only : (k s : ℕ) → k < 4 → InColumn x k s → InColumn found k s ⊎ (KillerMet rows sets q w (killer_of killers q w) × (slot_of rows q w k ≡ s))

-- one of the first m rows whose killer's slot is in the sets holds slot s in column k
pub record HitRow (rows killers : List ℕ) (sets : Columns) (q m k s : ℕ) : Type 0 where
  pub row : ℕ
  pub inside : row < m
  pub hit : KillerMet rows sets q row (killer_of killers q row)
  pub holds : slot_of rows q row k ≡ s

-- the first m rows are treated
pub record Scanned (rows killers : List ℕ) (sets : Columns) (q m : ℕ) (x : Columns) : Type 0 where
  pub has : (k s : ℕ) → k < 4 → HitRow rows killers sets q m k s → InColumn x k s
  pub only : (k s : ℕ) → k < 4 → InColumn x k s → HitRow rows killers sets q m k s

-- the same for the first n columns
pub record ScannedColumns (rows killers : List ℕ) (sets : Columns) (q n m : ℕ) (x : Columns) : Type 0 where
  pub has : (k s : ℕ) → k < n → HitRow rows killers sets q m k s → InColumn x k s
  pub only : (k s : ℕ) → k < n → InColumn x k s → HitRow rows killers sets q m k s

-- slot s of call c has the cause q and is not visited
abbrev pub Wanted : List ℕ → List ℕ → ℕ → ℕ → ℕ → Type 0
Wanted slots visited q c s = (cause_of slots c s ≡ q) × (Has (get_or visited c 0) s → ⊥)

-- m is the mask of such slots of column k's call; none past the n columns
pub record ColumnWanted (slots scope visited : List ℕ) (q n k m : ℕ) : Type 0 where
  pub here : k < n → IsMask (Wanted slots visited q (call_of scope q k)) 32 m
  pub past : n ≤ k → m ≡ 0

pub record ColumnsWanted (slots scope visited : List ℕ) (q n : ℕ) (x : Columns) : Type 0 where
  pub each : (k : ℕ) → k < 4 → ColumnWanted slots scope visited q n k (column_of x k)

-- where r is true no column has a slot
pub record Empty (x : Columns) (r : Bool) : Type 0 where
  pub none : r ≡ true → (k : ℕ) → k < 4 → column_of x k ≡ 0

pub record Common (x y r : Columns) : Type 0 where
  pub each : (k : ℕ) → k < 4 → column_of r k ≡ bit_and (column_of x k) (column_of y k)

-- x has the wanted slots that stand in a row of rule q whose killer's slot is visited
pub record NewSlots (rows killers scope visited : List ℕ) (wanted : Columns) (q n m : ℕ) (x : Columns) : Type 0 where
  pub sets : Columns
  pub known : ColumnSets visited scope q n sets
  pub has : (k s : ℕ) → k < n → InColumn wanted k s → HitRow rows killers sets q m k s → InColumn x k s
  pub only : (k s : ℕ) → k < 4 → InColumn x k s → (k < n) × InColumn wanted k s × HitRow rows killers sets q m k s

-- what a slot visited before leads to by P is visited, and what is visited is reached by P from the visited of before; `calls` has the calls with a new one
pub record Scans (P : ℕ → ℕ → Type 0) (old new : List Bool) (calls : ℕ) : Type 0 where
  pub spread : Spread old new calls
  pub full : (i j : ℕ) → P i j → IsFlagged old i → IsFlagged new j
  pub from : (j : ℕ) → IsFlagged new j → Reach P (IsFlagged old) j
