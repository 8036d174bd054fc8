-- CAUSES, KILLERS AND RINGS (SCOPE 1.11 to 1.14): what the memory records of a board's slots and rows.
-- `cause` gives a byte for each call and slot (255 open, 253 of a cancelled call, 254 past a call's slots, else the cause), `killer` one for each rule's number and row.
use Rattle.std.specs.Prelude.{◌≡◌, Bool, ◌⊎◌, ℕ, ◌<◌, length, T}
use Rattle.model.specs.Board.{Rule, Board, call_at, slot_at, OnBoard, InForce, Active, InScope, Holds, Within, SelfSupporting, Passing}

-- OPEN AND STRUCK BY THE BYTES (SCOPE 6.4), of slots of the board
abbrev pub Open : Board → (ℕ → ℕ → ℕ) → ℕ → ℕ → Type 0
Open B cause c s = OnBoard B c s × (cause c s ≡ 255)

abbrev pub Struck : Board → (ℕ → ℕ → ℕ) → ℕ → ℕ → Type 0
Struck B cause c s = OnBoard B c s × (cause c s < 64)

-- CAUSE (SCOPE 1.12): the slot's byte is the number of a rule that is in force and is on the slot's call
pub record Caused (B : Board) (cause : ℕ → ℕ → ℕ) (c s : ℕ) : Type 0 where
  pub rule : Rule
  pub force : InForce B (cause c s) rule
  pub call : InScope B rule c

-- the killer recorded for row w of rule r, whose number is p, is a column of r, and its slot is in the set A
pub record KillerIn (B : Board) (killer : ℕ → ℕ → ℕ) (A : ℕ → ℕ → Type 0) (r : Rule) (p w : ℕ) : Type 0 where
  pub column : Active B r (killer p w)
  pub member : A (call_at r (killer p w)) (slot_at r w (killer p w))

-- what a ring asks of each member: it is struck, and a row of its cause holds it and has its killer in E
pub record RingAt (B : Board) (cause killer : ℕ → ℕ → ℕ) (E : ℕ → ℕ → Type 0) (c s : ℕ) : Type 0 where
  pub struck : Struck B cause c s
  pub rule : Rule
  pub force : InForce B (cause c s) rule
  pub row : ℕ
  pub inside : row < length rule.rows
  pub holds : Holds B rule row c s
  pub killed : KillerIn B killer E rule (cause c s) row

-- RING (SCOPE 1.13), a term of the scope: a set that has a member, and of each member what is asked above
pub record Ring (B : Board) (cause killer : ℕ → ℕ → ℕ) (E : ℕ → ℕ → Type 0) : Type 0 where
  pub call : ℕ
  pub slot : ℕ
  pub member : E call slot
  pub each : (c s : ℕ) → E c s → RingAt B cause killer E c s

-- no set given by a test is a ring
abbrev pub NoRing : Board → (ℕ → ℕ → ℕ) → (ℕ → ℕ → ℕ) → Type 0
NoRing B cause killer = (E : ℕ → ℕ → Bool) → Ring B cause killer (Passing E) → ⊥

-- each row of the slot's cause that holds the slot has a killer, and it is not in Z
pub record Outside (B : Board) (cause killer : ℕ → ℕ → ℕ) (Z : ℕ → ℕ → Type 0) (c s : ℕ) : Type 0 where
  pub rule : Rule
  pub force : InForce B (cause c s) rule
  pub out : (w : ℕ) → w < length rule.rows → Holds B rule w c s → KillerIn B killer (λ d t. Z d t → ⊥) rule (cause c s) w

pub record Escape (B : Board) (cause killer : ℕ → ℕ → ℕ) (Z : ℕ → ℕ → Type 0) : Type 0 where
  pub call : ℕ
  pub slot : ℕ
  pub member : Z call slot
  pub outside : Outside B cause killer Z call slot

-- NO RING, in other words (SCOPE 1.14): a set of struck slots that has a member has one from which killers lead out of the set
abbrev pub EscapeFromAll : Board → (ℕ → ℕ → ℕ) → (ℕ → ℕ → ℕ) → Type 0
EscapeFromAll B cause killer =
    (Z : ℕ → ℕ → Bool) → ((c s : ℕ) → T (Z c s) → Struck B cause c s) → (c s : ℕ) → T (Z c s) → Escape B cause killer (Passing Z)

-- GROUNDED: the slot's cause is in force and on its call, and each row of the cause that holds it has a killer whose slot is grounded. The definition is
-- inductive, so nothing is grounded by going round in a ring
pub data Grounded (B : Board) (cause killer : ℕ → ℕ → ℕ) : ℕ → ℕ → Type 0 where
  because : {c s : ℕ} (r : Rule) → InForce B (cause c s) r → InScope B r c
      → ((w : ℕ) → w < length r.rows → Holds B r w c s → Active B r (killer (cause c s) w))
      → ((w : ℕ) → w < length r.rows → Holds B r w c s
      → Grounded B cause killer (call_at r (killer (cause c s) w)) (slot_at r w (killer (cause c s) w)))
      → Grounded B cause killer c s

-- What the records are at every moment, also while a command works: a slot of the board is open or struck, a struck one grounded, and a recorded
-- killer is the column of a struck slot
pub record Sound (B : Board) (cause killer : ℕ → ℕ → ℕ) : Type 0 where
  pub either : (c s : ℕ) → OnBoard B c s → (cause c s ≡ 255) ⊎ (cause c s < 64)
  pub grounded : (c s : ℕ) → Struck B cause c s → Grounded B cause killer c s
  pub killers : (p : ℕ) (r : Rule) → InForce B p r → (w : ℕ) → w < length r.rows
      → (killer p w ≡ 255) ⊎ KillerIn B killer (Struck B cause) r p w

-- and what they are when it is done: open slots are supported, and a row without a killer has its slots open
pub record Recorded (B : Board) (cause killer : ℕ → ℕ → ℕ) : Type 0 where
  pub sound : Sound B cause killer
  pub self : SelfSupporting B (Open B cause)
  pub alive : (p : ℕ) (r : Rule) → InForce B p r → (w : ℕ) → w < length r.rows → killer p w ≡ 255 → Within B (Open B cause) r w
