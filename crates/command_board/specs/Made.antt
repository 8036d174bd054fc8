-- KIND 1: what the functions that make a board promise.
use Rattle.std.specs.Prelude.{◌≡◌, Bool, not, ◌&&◌, ◌||◌, cond, List, ℕ, ◌/◌, ◌%◌, ◌<◌, length, get_or, eqb, ltb, Err}
use Rattle.layout.specs.declared.value.Value.{Value}
use Rattle.model.specs.declared.refusal.Refusal.{Refusal}
use Rattle.model.specs.Promise.{Answer, BoardMade}
use Rattle.layout.specs.Value.{fresh_heads, empty_draft}
use Rattle.layout.specs.Memory.{State, Filled}
use Rattle.layout.specs.Sizes.{killers_length, rows_length, slots_length}

-- a count n over 32, or another than 0 where a 0 came before it
abbrev pub bad_count? : ℕ → Bool → Bool
bad_count? n ended = ltb 32 n || ended && not (eqb n 0)

-- slot byte i of a board without rules: 255 on the board, 254 off it
unfoldable pub slot_byte : List ℕ → ℕ → ℕ
slot_byte counts i = cond (ltb (i % 32) (get_or counts (i / 32) 0)) 255 254

pub record SlotsMade (counts slots : List ℕ) : Type 0 where
  pub size : length slots ≡ slots_length
  pub each : (i : ℕ) → i < slots_length → get_or slots i 0 ≡ slot_byte counts i

-- the three buffers of a board without rules
pub record BuffersCleared (counts rows killers slots : List ℕ) : Type 0 where
  pub rows_filled : Filled rows_length 255 rows
  pub killers_filled : Filled killers_length 255 killers
  pub slots_made : SlotsMade counts slots

-- the value of a board without rules and without a draft
abbrev pub bare_value : List ℕ → Value
bare_value counts =
    record {
      heads = record { counts = counts; arity = fresh_heads.arity; scope = fresh_heads.scope; lengths = fresh_heads.lengths };
      draft = empty_draft;
    }

-- KIND 1 on any memory: made new by its counts alone, or refused, and then nothing is changed
pub record MakesBoard (counts : List ℕ) (before : State) (given : Answer) (after : State) : Type 0 where
  pub refused : (e : Refusal) → given ≡ Err e → after ≡ before
  pub made : BoardMade counts given after
