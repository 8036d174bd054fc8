-- THAT ROW'S FOUR BYTES ARE A PART OF THE ROW BUFFER (SCOPE 5.4), and no copy.
use Rattle.std.specs.Prelude.{◌≡◌, List, ℕ, ◌+◌, length}
use Rattle.std.specs.Borrow.{Bor}
use Rattle.layout.specs.declared.value.Value.{Value}
use Rattle.layout.specs.Memory.{memory}
use Rattle.layout.specs.Places.{row_start}
use Rattle.model.specs.Questions.{RowBytesPromise}

-- WHAT IS HANDED BACK of the row buffer that was lent, for row w of rule p: the bytes are those promised; they lie in the block of memory in which the buffer lies; and four
-- of them begin where the row does, counted from the buffer's own beginning. A reference is the block and the offset that it points to, and what it reads there now
pub record RowPart (value : Value) (rows : Bor (List ℕ)) (killers slots : List ℕ) (p w : ℕ) (part : Bor (List ℕ)) : Type 0 where
  pub promise : RowBytesPromise (memory value rows.now killers slots) p w part.now
  pub block : part.ref_ptr.0 ≡ rows.ref_ptr.0
  pub place : length part.now ≡ 4 → part.ref_ptr.1 ≡ rows.ref_ptr.1 + row_start p w
