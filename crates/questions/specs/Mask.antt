-- The mask as the code sums it up, slot by slot; the rule of the table of weights; and the digit of a slot in a mask.
use Rattle.std.specs.Prelude.{◌≡◌, Bool, cond, List, ℕ, ◌^◌, ◌<◌, ◌≤◌, get_or, eqb}
use Rattle.model.specs.Tests.{every?}
use Rattle.model.specs.Questions.{mask_of}

-- the digit of a slot
abbrev pub digit : Bool → ℕ
digit b = cond b 1 0

-- THE SUM so far: m is the mask of the slots below n
pub record SummedTo (f : ℕ → Bool) (n m : ℕ) : Type 0 where
  pub few : n ≤ 32
  pub is : m ≡ mask_of n f

-- THE RULE OF A TABLE OF WEIGHTS: entry s is 2 to the s
pub record Weights (table : List ℕ) : Type 0 where
  pub each : (s : ℕ) → s < 32 → get_or table s 0 ≡ 2 ^ s

-- and as one test over the whole table
abbrev pub weights? : List ℕ → Bool
weights? table = every? 32 (λ s. eqb (get_or table s 0) (2 ^ s))
