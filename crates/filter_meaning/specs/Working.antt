-- What holds of a board's bytes while a command works, and that every step of propagation keeps it: a step first kills rows, then strikes slots, and both keep
-- the records sound.
use Rattle.std.specs.Prelude.{◌≡◌, ℕ, ◌≤◌, ◌<◌, length}
use Rattle.model.specs.Board.{Board, OnBoard}
use Rattle.model.specs.Records.{Sound}
use Rattle.model.specs.Representation.{rule_at, off_byte}
use Rattle.filter_propagate.specs.Rules.{RuleBytes, Progress}
use Rattle.filter_propagate.specs.Stable.{Calm}
use Rattle.filter_meaning.specs.Rules.{RulesOf}
use Rattle.layout.specs.Places.{cause_of, killer_of}
use Rattle.layout.specs.Bounds.{Sizes}

-- WHILE A COMMAND WORKS: the rules are stored and the records sound, what is not the board's is as it has to be, and every rule that is not pending is stable
pub record Working (B : Board) (R : RuleBytes) (x : Progress) : Type 0 where
  pub sizes : Sizes R.rows x.killers x.slots
  pub rules : RulesOf B R
  pub sound : Sound B (cause_of x.slots) (killer_of x.killers)
  pub off : (c s : ℕ) → c < 32 → s < 32 → (OnBoard B c s → ⊥) → cause_of x.slots c s ≡ off_byte B c s
  pub spare : (p w : ℕ) → p < 64 → w < 64 → length (rule_at B p).rows ≤ w → killer_of x.killers p w ≡ 255
  pub calm : Calm R x
