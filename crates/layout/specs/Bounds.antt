-- What functions over the buffers ask of their callers: the lengths of the buffers, and numbers within them. Nothing is asked of the contents.
use Rattle.std.specs.Prelude.{◌≡◌, List, ℕ, ◌≤◌, ◌<◌, length}
use Rattle.layout.specs.Sizes.{killers_length, rows_length, slots_length}

-- the buffers
pub record Sizes (rows killers slots : List ℕ) : Type 0 where
  pub rows_size : length rows ≡ rows_length
  pub killers_size : length killers ≡ killers_length
  pub slots_size : length slots ≡ slots_length

-- the first n columns of row w of rule p
pub record InRow (rows : List ℕ) (p w n : ℕ) : Type 0 where
  pub size : length rows ≡ rows_length
  pub rule : p < 64
  pub row : w < 64
  pub columns : n ≤ 4

-- the first n columns of the first m rows of rule p
pub record InRule (rows : List ℕ) (p m n : ℕ) : Type 0 where
  pub size : length rows ≡ rows_length
  pub rule : p < 64
  pub row_count : m ≤ 64
  pub columns : n ≤ 4
