-- THE BUFFERS THAT A MARK BRINGS BACK: what it holds, part by part.
use Rattle.std.specs.Prelude.{◌≡◌, List, ℕ}
use Rattle.layout.specs.Marks.{marked_rows, marked_killers, marked_slots}

pub record PartsBack (marks : List ℕ) (name : ℕ) (rows killers slots : List ℕ) : Type 0 where
  pub rows_are : rows ≡ marked_rows marks name
  pub killers_are : killers ≡ marked_killers marks name
  pub slots_are : slots ≡ marked_slots marks name
