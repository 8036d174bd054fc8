-- Which slots become visited, and on which calls. The visited slots are a mask for each call, read as one table of flags.
use Rattle.std.specs.Prelude.{◌≡◌, List, ◌⊎◌, Bool, false, not, ℕ, ◌<◌, get_or}
use Rattle.tables.specs.Assign.{Flagged}
use Rattle.tables.specs.Lost.{OnlyLost}
use Rattle.tables.specs.Masks.{Has, IsMask, all_flags}
use Rattle.masks.specs.declared.columns.Columns.{Columns}
use Rattle.masks.specs.Columns.{column_of}
use Rattle.filter_propagate.specs.Queue.{IsFlagged}
use Rattle.layout.specs.Places.{call_of, slot_place}

abbrev pub is_visited : Bool → Bool
is_visited b = b

-- slot byte j is that of a slot of call c in the mask
abbrev pub CallMask : ℕ → ℕ → ℕ → Type 0
CallMask c mask j = (s : ℕ) × (s < 32) × (j ≡ slot_place c s) × Has mask s

-- it is that of a slot in the set of column k, on the call of that column of rule q
abbrev pub ColumnMask : List ℕ → ℕ → Columns → ℕ → ℕ → Type 0
ColumnMask scope q x k = CallMask (call_of scope q k) (column_of x k)

-- call c has a slot of Q
abbrev pub HasSlot : (ℕ → Type 0) → ℕ → Type 0
HasSlot Q c = (s : ℕ) × (s < 32) × Q (slot_place c s)

-- the slots of Q are visited, and no others; the calls that have one of them join the mask of calls
pub record Adds (Q : ℕ → Type 0) (old new : List ℕ) (before after : ℕ) : Type 0 where
  pub visited : Flagged Q (all_flags 32 old) (all_flags 32 new)
  pub stays : (c : ℕ) → Has before c → Has after c
  pub joins : (c : ℕ) → HasSlot Q c → Has after c
  pub only : (c : ℕ) → Has after c → Has before c ⊎ HasSlot Q c

-- a slot of call c became visited
abbrev pub NewOn : List Bool → List Bool → ℕ → Type 0
NewOn old new c = (s : ℕ) × (s < 32) × (get_or old (slot_place c s) false ≡ false) × IsFlagged new (slot_place c s)

-- none of the visited is taken away, and `calls` is the mask of the calls with a new one
pub record Spread (old new : List Bool) (calls : ℕ) : Type 0 where
  pub only : OnlyLost false not is_visited old new
  pub calls_new : IsMask (NewOn old new) 32 calls
