-- How many slots a relaxation reopens: the lists of slot bytes before, after the reopening, and after propagation, and the visited slots.
use Rattle.std.specs.Prelude.{◌≡◌, List, ◌⊎◌, Bool, ℕ, ◌≤◌, ◌<◌, length, get_or}
use Rattle.tables.specs.Lost.{OnlyLost}
use Rattle.filter_support.specs.Strikes.{is_open, is_struck}
use Rattle.filter_propagate.specs.Queue.{IsFlagged}

-- a byte that is neither open nor struck: of a cancelled call, or past a call's slots
abbrev pub Neither : ℕ → Type 0
Neither x = (253 ≤ x) × (x ≤ 254)

-- A VISITED SLOT was struck and is open, any other stays as it was or is neither open nor struck any more; propagation then strikes some; and none that was open before is struck
pub record Reopening (slots left after : List ℕ) (visited : List Bool) : Type 0 where
  pub left_size : length left ≡ length slots
  pub visited_size : length visited ≡ length slots
  pub was_struck : (j : ℕ) → IsFlagged visited j → get_or slots j 0 < 64
  pub are_open : (j : ℕ) → IsFlagged visited j → get_or left j 0 ≡ 255
  pub kept : (j : ℕ) → (IsFlagged visited j → ⊥) → (get_or left j 0 ≡ get_or slots j 0) ⊎ Neither (get_or left j 0)
  pub again : OnlyLost 0 is_open is_struck left after
  pub none_struck : (j : ℕ) → get_or slots j 0 ≡ 255 → get_or after j 0 < 64 → ⊥
