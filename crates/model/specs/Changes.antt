-- WHAT PROPAGATION AND RELAXATION DO TO THE RECORDS: strikes, kills, the slots that a retraction or a cancellation touches, their reopening; and stable rules.
use Rattle.std.specs.Prelude.{◌≡◌, ◌≢◌, ◌⊎◌, Bool, ℕ, ◌<◌, length, T}
use Rattle.model.specs.Board.{Rule, Board, Cancelled, Live, OnBoard, InForce, InScope, Holds, Within, Passing}
use Rattle.model.specs.Records.{Open, Struck, KillerIn}

-- A STRIKE: causes change only from open to p, the number of a rule r on their call, each of whose rows that hold the slot has a killer
pub record Strikes (B : Board) (p : ℕ) (r : Rule) (killer cause cause' : ℕ → ℕ → ℕ) : Type 0 where
  pub kept : (c s : ℕ) → cause c s ≢ 255 → cause' c s ≡ cause c s
  pub each : (c s : ℕ) → OnBoard B c s
      → (cause' c s ≡ cause c s)
      ⊎ ((cause c s ≡ 255) × (cause' c s ≡ p) × InScope B r c × ((w : ℕ) → w < length r.rows → Holds B r w c s → killer p w ≢ 255))

-- A KILL: killers change only from none to the column of a struck slot of the row
pub record Kills (B : Board) (cause killer killer' : ℕ → ℕ → ℕ) : Type 0 where
  pub kept : (p w : ℕ) → killer p w ≢ 255 → killer' p w ≡ killer p w
  pub each : (p : ℕ) (r : Rule) → InForce B p r → (w : ℕ) → w < length r.rows → (killer' p w ≡ killer p w) ⊎ KillerIn B killer' (Struck B cause) r p w

-- A WEAKER BOARD: the same calls and counts, no fewer cancelled calls, no rule in force that was not. A retraction leaves one, and so does a cancellation
pub record Weaker (B B' : Board) : Type 0 where
  pub counts : B.counts ≡ B'.counts
  pub cancelled : (c : ℕ) → Cancelled B c → Cancelled B' c
  pub rules : (p : ℕ) (r : Rule) → InForce B' p r → InForce B p r

-- A SEED of the step to it: a struck slot that is not in the seed keeps its cause in force, and its call is not cancelled
pub record Seeds (B B' : Board) (cause : ℕ → ℕ → ℕ) (Seed : ℕ → ℕ → Type 0) : Type 0 where
  pub force : (c s : ℕ) → Struck B cause c s → (Seed c s → ⊥) → (r : Rule) → InForce B (cause c s) r → InForce B' (cause c s) r
  pub live : (c s : ℕ) → Struck B cause c s → (Seed c s → ⊥) → Live B' c

-- the seed of a retraction of rule p: the slots whose cause is p; and of a cancellation of call d: the slots of d
abbrev pub CauseIs : (ℕ → ℕ → ℕ) → ℕ → ℕ → ℕ → Type 0
CauseIs cause p c s = cause c s ≡ p

abbrev pub OwnSlot : ℕ → ℕ → ℕ → Type 0
OwnSlot d c s = c ≡ d

-- A CLOSED SET: it has each struck slot of the seed, and each struck slot that stands in a row of its cause whose killer it has
pub record ClosedFor (B : Board) (Seed : ℕ → ℕ → Type 0) (cause killer : ℕ → ℕ → ℕ) (Z : ℕ → ℕ → Type 0) : Type 0 where
  pub seed : (c s : ℕ) → Struck B cause c s → Seed c s → Z c s
  pub more : (c s : ℕ) → Struck B cause c s → (r : Rule) → InForce B (cause c s) r → (w : ℕ) → w < length r.rows → Holds B r w c s
      → KillerIn B killer Z r (cause c s) w → Z c s

-- THE SMALLEST CLOSED SET (SCOPE 3.19, order 9), by a test f: what passes f is closed, and lies in every closed set that has a test. There is only one such set
-- (Laws.Touched, `one_smallest`)
pub record Smallest (B : Board) (Seed : ℕ → ℕ → Type 0) (cause killer : ℕ → ℕ → ℕ) (f : ℕ → ℕ → Bool) : Type 0 where
  pub closed : ClosedFor B Seed cause killer (Passing f)
  pub least : (g : ℕ → ℕ → Bool) → ClosedFor B Seed cause killer (Passing g) → (c s : ℕ) → T (f c s) → T (g c s)

-- THE REOPENING OF A CLOSED SET on the weaker board: its slots become open, the rows whose killers it has become living, and all else stays. Of slots that are not on the
-- weaker board, those of a call cancelled there among them, and of rules not in force there it says nothing
pub record Reopens (B B' : Board) (Z : ℕ → ℕ → Type 0) (cause cause' killer killer' : ℕ → ℕ → ℕ) : Type 0 where
  pub opened : (c s : ℕ) → OnBoard B' c s → Z c s → cause' c s ≡ 255
  pub kept : (c s : ℕ) → OnBoard B' c s → (Z c s → ⊥) → cause' c s ≡ cause c s
  pub revived : (q : ℕ) (r : Rule) → InForce B' q r → (w : ℕ) → w < length r.rows → KillerIn B killer Z r q w → killer' q w ≡ 255
  pub same : (q : ℕ) (r : Rule) → InForce B' q r → (w : ℕ) → w < length r.rows → (KillerIn B killer Z r q w → ⊥) → killer' q w ≡ killer q w

-- A STABLE RULE: its rows without a killer have their slots open, and each open slot on its calls stands in such a row
pub record Stable (B : Board) (cause killer : ℕ → ℕ → ℕ) (p : ℕ) (r : Rule) : Type 0 where
  pub alive : (w : ℕ) → w < length r.rows → killer p w ≡ 255 → Within B (Open B cause) r w
  pub held : (c s : ℕ) → Open B cause c s → InScope B r c → (w : ℕ) × (w < length r.rows) × (killer p w ≡ 255) × Holds B r w c s
