-- The law of a loop that writes one value v at the entries of a set, where they are free to be written: flags, and bytes of one cause.
use Rattle.std.specs.Prelude.{◌≡◌, List, ◌⊎◌, Bool, true, false, ℕ, ◌<◌, length, get_or}

-- each entry of Q that was free holds v, and every other is as it was
pub record Assigned {A : Type 0} (d v : A) (Free : A → Type 0) (Q : ℕ → Type 0) (old new : List A) : Type 0 where
  pub len : length new ≡ length old
  pub written : (j : ℕ) → Q j → Free (get_or old j d) → get_or new j d ≡ v
  pub each : (j : ℕ) → (get_or new j d ≡ get_or old j d) ⊎ (Free (get_or old j d) × (get_or new j d ≡ v) × Q j)

-- every flag is free
abbrev pub Any : Bool → Type 0
Any b = Unit

-- the flags of Q are set, and every other is as it was
abbrev pub Flagged : (ℕ → Type 0) → List Bool → List Bool → Type 0
Flagged Q old new = Assigned false true Any Q old new

-- in one of the first n sets
abbrev pub Below : (ℕ → ℕ → Type 0) → ℕ → ℕ → Type 0
Below Q n j = (i : ℕ) × (i < n) × Q i j
