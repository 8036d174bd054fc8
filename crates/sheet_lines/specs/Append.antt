-- BYTES WRITTEN ONE AFTER ANOTHER into a buffer: what stands before the place is as it was, then come the bytes, and what stands behind them is as it was.
-- Assumes nothing.
use Rattle.std.specs.Prelude.{◌≡◌, List, [], ◌∷◌, ◌++◌, ℕ, ◌+◌, ◌≤◌, length, take, drop}

-- there is room for n bytes from the place on
pub record Room (at n : ℕ) (out : List ℕ) : Type 0 where
  pub fits : at + n ≤ length out

-- THE BYTES ARE APPENDED at the place, and r is the place after them
pub record Appended (bytes : List ℕ) (at : ℕ) (old new : List ℕ) (r : ℕ) : Type 0 where
  pub place : r ≡ at + length bytes
  pub size : length new ≡ length old
  pub written : take r new ≡ take at old ++ bytes
  pub behind : drop r new ≡ drop r old

-- several parts, one after another
abbrev pub all_parts : List (List ℕ) → List ℕ
all_parts [] = []
all_parts (x ∷ xs) = x ++ all_parts xs

-- together they are the bytes
pub record Split (parts : List (List ℕ)) (bytes : List ℕ) : Type 0 where
  pub same : all_parts parts ≡ bytes

-- there is room for them
pub record RoomFor (parts : List (List ℕ)) (at : ℕ) (out : List ℕ) : Type 0 where
  pub room : Room at (length (all_parts parts)) out
