-- WHERE BYTES LIE in the value and in the lent buffers. Numbers are taken modulo the sizes, and columns and rows are capped, so that any bytes name a place.
use Rattle.std.specs.Prelude.{Bool, ◌&&◌, List, ℕ, ◌+◌, ◌*◌, ◌%◌, min, get_or, eqb, ltb}

-- THE PLACES (SCOPE 2.1 to 2.3): of row w of rule p and its column k, of that row's killer, of slot s of call c; of column k of rule p among the heads; and of column k of
-- row w in the rows of one rule
abbrev pub row_start : ℕ → ℕ → ℕ
row_start p w = 256 * p + 4 * w

abbrev pub row_place : ℕ → ℕ → ℕ → ℕ
row_place p w k = row_start p w + k

abbrev pub killer_place : ℕ → ℕ → ℕ
killer_place p w = 64 * p + w

abbrev pub slot_place : ℕ → ℕ → ℕ
slot_place c s = 32 * c + s

abbrev pub scope_place : ℕ → ℕ → ℕ
scope_place p k = 4 * p + k

abbrev pub own_place : ℕ → ℕ → ℕ
own_place w k = 4 * w + k

-- the call of column k of rule p
abbrev pub call_of : List ℕ → ℕ → ℕ → ℕ
call_of scope p k = get_or scope (scope_place p k) 0 % 32

-- the slot in column k of row w of rule p
abbrev pub slot_of : List ℕ → ℕ → ℕ → ℕ → ℕ
slot_of rows p w k = get_or rows (row_place p w k) 0 % 32

-- the killer byte of row w of rule p
abbrev pub killer_of : List ℕ → ℕ → ℕ → ℕ
killer_of killers p w = get_or killers (killer_place p w) 0

-- the slot byte of column k of row w of rule p
unfoldable pub row_cell : List ℕ → List ℕ → ℕ → ℕ → ℕ → ℕ
row_cell rows scope p w k = slot_place (call_of scope p k) (slot_of rows p w k)

-- how many columns and rows of rule p are looked at
abbrev pub columns_of : List ℕ → ℕ → ℕ
columns_of arity p = min (get_or arity p 0) 4

abbrev pub rows_of : List ℕ → ℕ → ℕ
rows_of lengths p = min (get_or lengths p 0) 64

-- the byte of slot s of call c (SCOPE 2.3)
abbrev pub cause_of : List ℕ → ℕ → ℕ → ℕ
cause_of slots c s = get_or slots (slot_place c s) 0

-- THE BYTE OF EACH SLOT OF A CANCELLED CALL (SCOPE 2.12). The byte of its first slot says that a call is cancelled: every call of a board has a slot
abbrev pub cancelled_byte : ℕ
cancelled_byte = 253

abbrev pub cancelled? : List ℕ → ℕ → Bool
cancelled? slots c = ltb c 32 && eqb (cause_of slots c 0) cancelled_byte
