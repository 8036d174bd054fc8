-- What the walk over a rule's rows means: a living row with a struck slot is killed, and the slots of a row that goes on living are supported.
use Rattle.std.specs.Prelude.{◌≡◌, List, ◌⊎◌, ℕ, ◌≤◌, ◌<◌, get_or}
use Rattle.layout.specs.Places.{slot_of, killer_of, row_cell}

-- column k of row w of rule p holds a struck slot
abbrev pub HoldsStruck : List ℕ → List ℕ → List ℕ → ℕ → ℕ → ℕ → Type 0
HoldsStruck rows slots scope p w k = get_or slots (row_cell rows scope p w k) 0 < 64

-- none of the first n columns does
abbrev pub NoneStruck : List ℕ → List ℕ → List ℕ → ℕ → ℕ → ℕ → Type 0
NoneStruck rows slots scope p n w = (k : ℕ) → k < n → HoldsStruck rows slots scope p w k → ⊥

-- r is the first of n columns that holds a struck slot, or n
pub record FirstStruck (rows slots scope : List ℕ) (p w n r : ℕ) : Type 0 where
  pub le : r ≤ n
  pub before : NoneStruck rows slots scope p r w
  pub here : r < n → HoldsStruck rows slots scope p w r

-- the killer byte of row w: a dead row keeps it; a living row gets the first column that holds a struck slot, if there is one
pub record Killed (rows slots scope : List ℕ) (p n w old new : ℕ) : Type 0 where
  pub dead : (old ≡ 255 → ⊥) → new ≡ old
  pub living : old ≡ 255 → ((new ≡ 255) × NoneStruck rows slots scope p n w) ⊎ ((new < n) × FirstStruck rows slots scope p w n new)

-- a living row of rule p, of its first m, holds slot s in column k
pub record Support (rows killers : List ℕ) (p m k s : ℕ) : Type 0 where
  pub row : ℕ
  pub inside : row < m
  pub lives : killer_of killers p row ≡ 255
  pub holds : slot_of rows p row k ≡ s

-- no living row does
abbrev pub Unsupported : List ℕ → List ℕ → ℕ → ℕ → ℕ → ℕ → Type 0
Unsupported rows killers p m k s = Support rows killers p m k s → ⊥
