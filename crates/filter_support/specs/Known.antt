-- The masks of the calls that a command has looked at, in two tables.
use Rattle.std.specs.Prelude.{◌≡◌, List, ℕ, ◌<◌, get_or}
use Rattle.tables.specs.Masks.{Has, IsMask}
use Rattle.layout.specs.Places.{call_of, cause_of}
use Rattle.filter_support.specs.declared.known.CallMasks.{CallMasks}

-- the tables have the masks of the open and of the struck slots of call c
pub record KnownCall (slots : List ℕ) (masks : CallMasks) (c : ℕ) : Type 0 where
  pub opened_slots : IsMask (λ s. cause_of slots c s ≡ 255) 32 (get_or masks.opened c 0)
  pub struck_slots : IsMask (λ s. cause_of slots c s < 64) 32 (get_or masks.struck c 0)

-- the same for each call of C
pub record KnownCalls (C : ℕ → Type 0) (slots : List ℕ) (masks : CallMasks) : Type 0 where
  pub each : (c : ℕ) → c < 32 → C c → KnownCall slots masks c

-- and for each call that is said to be known
abbrev pub Known : List ℕ → CallMasks → Type 0
Known slots masks = KnownCalls (Has masks.known) slots masks

-- d is the call of one of the first n columns of rule p
pub record ColumnCall (scope : List ℕ) (p n d : ℕ) : Type 0 where
  pub column : ℕ
  pub inside : column < n
  pub is : d ≡ call_of scope p column

-- the calls that were known before are known after, and those of Q
pub record Learnt (Q : ℕ → Type 0) (slots : List ℕ) (before after : CallMasks) : Type 0 where
  pub masks : Known slots after
  pub stays : (c : ℕ) → Has before.known c → Has after.known c
  pub joins : (c : ℕ) → Q c → Has after.known c

-- a call that the tables knew before, for the old slot bytes, they know after, for the new ones; and the same calls are said to be known
pub record StillKnown (old : List ℕ) (before : CallMasks) (new : List ℕ) (after : CallMasks) : Type 0 where
  pub same : after.known ≡ before.known
  pub each : (c : ℕ) → c < 32 → KnownCall old before c → KnownCall new after c
