-- Which slots are struck, how many, and on which calls.
use Rattle.std.specs.Prelude.{◌≡◌, List, ◌⊎◌, Bool, ℕ, ◌+◌, ◌<◌, eqb, ltb, get_or}
use Rattle.tables.specs.Assign.{Assigned, Below}
use Rattle.tables.specs.Count.{count}
use Rattle.tables.specs.Masks.{bit_of, Has, IsMask}
use Rattle.masks.specs.declared.columns.Columns.{Columns}
use Rattle.masks.specs.Columns.{column_of}
use Rattle.layout.specs.Places.{call_of, slot_place}

-- a slot byte that is open, and one that is struck
abbrev pub is_open : ℕ → Bool
is_open x = eqb x 255

abbrev pub is_struck : ℕ → Bool
is_struck x = ltb x 64

abbrev pub OpenByte : ℕ → Type 0
OpenByte x = x ≡ 255

-- the open slots of Q are struck with cause p, and they are r
pub record SlotsStruck (Q : ℕ → Type 0) (p r : ℕ) (old new : List ℕ) : Type 0 where
  pub assigned : Assigned 0 p OpenByte Q old new
  pub drop : count is_open new + r ≡ count is_open old

-- slot byte j is that of slot s of call c, and N s holds
abbrev pub SlotWith : (ℕ → Type 0) → ℕ → ℕ → ℕ → Type 0
SlotWith N c s j = (j ≡ slot_place c s) × N s

-- it is that of a slot of call c
abbrev pub CallWith : (ℕ → Type 0) → ℕ → ℕ → Type 0
CallWith N c j = Below (SlotWith N c) 32 j

-- it is that of a slot of the call of column k of rule p, and N k holds of the slot
abbrev pub ColumnWith : (ℕ → ℕ → Type 0) → List ℕ → ℕ → ℕ → ℕ → Type 0
ColumnWith N scope p k j = CallWith (N k) (call_of scope p k) j

-- slot s is not in the mask
abbrev pub Lacks : ℕ → ℕ → Type 0
Lacks m s = bit_of m s ≡ 0

-- slot s is not in the set of column k
abbrev pub NotIn : Columns → ℕ → ℕ → Type 0
NotIn x k s = Lacks (column_of x k) s

-- the slots of call c in the mask are open
pub record AllOpen (slots : List ℕ) (c m : ℕ) : Type 0 where
  pub each : (s : ℕ) → Has m s → (s < 32) × (get_or slots (slot_place c s) 0 ≡ 255)

-- a slot of call c was struck: it was open, and is not
abbrev pub StruckOn : List ℕ → List ℕ → ℕ → Type 0
StruckOn old new c = (s : ℕ) × (s < 32) × (get_or old (slot_place c s) 0 ≡ 255) × (get_or new (slot_place c s) 0 ≡ 255 → ⊥)

-- r is the mask `calls` with call c, where the number of slots struck there is not 0
pub record WithCall (calls c number r : ℕ) : Type 0 where
  pub stays : (e : ℕ) → Has calls e → Has r e
  pub joins : 0 < number → Has r c
  pub only : (e : ℕ) → Has r e → Has calls e ⊎ ((e ≡ c) × (0 < number))

-- the slots of n columns of rule p of which N holds are struck, they are r, and `calls` is the mask of the calls where one was struck
pub record ColumnsStruck (N : ℕ → ℕ → Type 0) (scope : List ℕ) (p n r calls : ℕ) (old new : List ℕ) : Type 0 where
  pub strikes : SlotsStruck (Below (ColumnWith N scope p) n) p r old new
  pub calls_struck : IsMask (StruckOn old new) 32 calls
