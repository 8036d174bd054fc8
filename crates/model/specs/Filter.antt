-- A FILTER FROM SCRATCH, which computes: it finds the open slots of any board. Laws.Filter proves that what it finds is exactly what is viable.
use Rattle.std.specs.Prelude.{Bool, true, not, ◌&&◌, ◌||◌, cond, List, [], ◌∷◌, ℕ, zero, suc, ◌+◌, length, get_or, eqb}
use Rattle.std.proofs.Math.Option.{Option, none, some}
use Rattle.model.specs.Board.{Rule, Board, call_at, slot_at, active?, cancelled_on?}
use Rattle.model.specs.Tests.{some?, every?, up_from, has, keep_only}

-- `left` has, for each call, the slots that are left of it
abbrev pub in? : List (List ℕ) → ℕ → ℕ → Bool
in? left c s = has (get_or left c []) s

-- Board.antt's InScope, Holds, Within and Supported as tests
abbrev pub in_scope? : Board → Rule → ℕ → Bool
in_scope? B r c = some? (length r.scope) λ k. active? B r k && eqb (call_at r k) c

abbrev pub holds? : Board → Rule → ℕ → ℕ → ℕ → Bool
holds? B r w c s = some? (length r.scope) λ k. active? B r k && (eqb (call_at r k) c && eqb (slot_at r w k) s)

abbrev pub within? : Board → List (List ℕ) → Rule → ℕ → Bool
within? B left r w = every? (length r.scope) λ k. not (active? B r k) || in? left (call_at r k) (slot_at r w k)

abbrev pub supported? : Board → List (List ℕ) → Rule → ℕ → ℕ → Bool
supported? B left r c s = some? (length r.rows) λ w. holds? B r w c s && within? B left r w

-- a rule, if there is one, is not on the call or supports the slot; every rule in force does so
abbrev pub admits? : Board → List (List ℕ) → ℕ → ℕ → Option Rule → Bool
admits? B left c s none = true
admits? B left c s (some r) = not (in_scope? B r c) || supported? B left r c s

abbrev pub all? : (Option Rule → Bool) → List (Option Rule) → Bool
all? f [] = true
all? f (x ∷ xs) = f x && all? f xs

abbrev pub kept? : Board → List (List ℕ) → ℕ → ℕ → Bool
kept? B left c s = all? (admits? B left c s) B.rules

-- one pass takes out each slot that some rule does not support
abbrev pub pass_from : Board → List (List ℕ) → ℕ → List (List ℕ) → List (List ℕ)
pass_from B left c [] = []
pass_from B left c (xs ∷ rest) = keep_only (kept? B left c) xs ∷ pass_from B left (suc c) rest

abbrev pub pass : Board → List (List ℕ) → List (List ℕ)
pass B left = pass_from B left 0 left

abbrev pub passes : ℕ → Board → List (List ℕ) → List (List ℕ)
passes zero B left = left
passes (suc n) B left = passes n B (pass B left)

-- all slots of the board, none of them of a cancelled call: those from call c on, whose count begins the list, and all; and how many they are
abbrev pub slots_from : Board → ℕ → List ℕ → List (List ℕ)
slots_from B c [] = []
slots_from B c (n ∷ ns) = up_from 0 (cond (cancelled_on? B c) 0 n) ∷ slots_from B (suc c) ns

abbrev pub all_slots : Board → List (List ℕ)
all_slots B = slots_from B 0 B.counts

abbrev pub size : List (List ℕ) → ℕ
size [] = 0
size (xs ∷ rest) = length xs + size rest

-- THE OPEN SLOTS of each call: as many passes as there are slots are enough
abbrev pub open_of : Board → List (List ℕ)
open_of B = passes (size (all_slots B)) B (all_slots B)
