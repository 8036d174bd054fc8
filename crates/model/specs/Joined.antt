-- CALLS JOINED BY RULES, and the board without a call.
use Rattle.std.specs.Prelude.{Bool, cond, List, [], ◌∷◌, ℕ, set}
use Rattle.std.proofs.Math.Option.{Option, none, some}
use Rattle.model.specs.Board.{Rule, Board, InForce, InScope}
use Rattle.model.specs.Filter.{in_scope?}

-- call d is joined to call c by a chain of rules in force
pub data Joined (B : Board) (c : ℕ) : ℕ → Type 0 where
  itself : Joined B c c
  by : {d e : ℕ} (p : ℕ) (r : Rule) → Joined B c d → InForce B p r → InScope B r d → InScope B r e → Joined B c e

-- THE BOARD WITHOUT CALL c: it has no slot, and no rule on it is in force
abbrev pub unless : Bool → Option Rule → Option Rule
unless b o = cond b none o

abbrev pub off_call : Board → ℕ → List (Option Rule) → List (Option Rule)
off_call B c [] = []
off_call B c (none ∷ os) = none ∷ off_call B c os
off_call B c (some r ∷ os) = unless (in_scope? B r c) (some r) ∷ off_call B c os

abbrev pub without_call : Board → ℕ → Board
without_call B c = record { counts = set B.counts c 0; rules = off_call B c B.rules; cancelled = B.cancelled }
