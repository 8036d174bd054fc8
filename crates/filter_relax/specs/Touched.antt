-- The touched slots of a relaxation, over the bytes: which struck slot joins when another is touched, and the smallest set that has the seed and is closed under it.
use Rattle.std.specs.Prelude.{◌≡◌, List, Bool, ℕ, ◌/◌, ◌<◌, get_or}
use Rattle.tables.specs.Assign.{Below}
use Rattle.filter_propagate.specs.Rules.{RuleBytes}
use Rattle.filter_propagate.specs.Queue.{IsFlagged}
use Rattle.filter_relax.specs.Reach.{Reach}
use Rattle.layout.specs.Places.{columns_of, rows_of, call_of, killer_of, row_cell, slot_place}

-- slot byte j is byte i, and its cause is q
pub record CausedAt (slots : List ℕ) (q i j : ℕ) : Type 0 where
  pub is : j ≡ i
  pub cause : get_or slots j 0 ≡ q

-- column k of row w of rule q holds slot byte j, whose cause is q
abbrev pub HeldAt : List ℕ → List ℕ → List ℕ → ℕ → ℕ → ℕ → ℕ → Type 0
HeldAt rows slots scope q w k = CausedAt slots q (row_cell rows scope q w k)

-- row w of rule q, of n columns, justifies the strike of j by i: it holds j, whose cause is q, and its killer's slot is i
pub record RowJustifies (rows killers slots scope : List ℕ) (q n w i j : ℕ) : Type 0 where
  pub held : Below (HeldAt rows slots scope q w) n j
  pub column : killer_of killers q w < n
  pub killer : i ≡ row_cell rows scope q w (killer_of killers q w)

-- a row of rule q does
pub record RuleJustifies (R : RuleBytes) (killers slots : List ℕ) (q i j : ℕ) : Type 0 where
  pub row : ℕ
  pub inside : row < rows_of R.lengths q
  pub by : RowJustifies R.rows killers slots R.scope q (columns_of R.arity q) row i j

-- a row of a rule does
pub record Justifies (R : RuleBytes) (killers slots : List ℕ) (i j : ℕ) : Type 0 where
  pub rule : ℕ
  pub number : rule < 64
  pub by : RuleJustifies R killers slots rule i j

-- THE TOUCHED SLOTS: the seed, and every slot that stands in a row of its cause whose killer's slot is touched
abbrev pub Touched : RuleBytes → List ℕ → List ℕ → (ℕ → Type 0) → ℕ → Type 0
Touched R killers slots Seed = Reach (Justifies R killers slots) Seed

-- no rule kills its own rows by its own strikes: no row's killer is on a slot with that rule as its cause
abbrev pub NoOwnKill : RuleBytes → List ℕ → List ℕ → Type 0
NoOwnKill R killers slots =
    (q w : ℕ) → q < 64 → w < rows_of R.lengths q → killer_of killers q w < columns_of R.arity q
    → get_or slots (row_cell R.rows R.scope q w (killer_of killers q w)) 0 ≡ q → ⊥

-- the slots with cause p: of call c; and of the calls of the first n columns of rule p, which are the seed of a retraction of p
abbrev pub CallCaused : List ℕ → ℕ → ℕ → ℕ → Type 0
CallCaused slots p c = Below (λ s. CausedAt slots p (slot_place c s)) 32

abbrev pub Seeded : List ℕ → List ℕ → ℕ → ℕ → ℕ → Type 0
Seeded slots scope p n = Below (λ k. CallCaused slots p (call_of scope p k)) n

-- killer byte x of row w of rule q is one of n columns, and its slot is visited
pub record KillerVisited (rows scope : List ℕ) (visited : List Bool) (q n w x : ℕ) : Type 0 where
  pub column : x < n
  pub slot : IsFlagged visited (row_cell rows scope q w x)

-- a slot of call c is visited
abbrev pub HasVisited : List Bool → ℕ → Type 0
HasVisited visited c = (s : ℕ) × (s < 32) × IsFlagged visited (slot_place c s)

-- the flagged calls cover the visited
abbrev pub Covers : List Bool → List Bool → Type 0
Covers flags visited = (j : ℕ) → IsFlagged visited j → IsFlagged flags (j / 32)

-- they are exactly the calls with a visited slot
pub record CallsVisited (flags visited : List Bool) : Type 0 where
  pub covers : Covers flags visited
  pub only : (c : ℕ) → IsFlagged flags c → HasVisited visited c
