-- What a step keeps, and so propagate: the lengths; that slots only go from open to struck; that killers only go from none to the column of a struck slot.
use Rattle.std.specs.Prelude.{◌≡◌, List, ℕ, ◌<◌}
use Rattle.filter_propagate.specs.Rules.{RuleBytes}
use Rattle.filter_support.specs.Rows.{HoldsStruck}
use Rattle.layout.specs.Places.{columns_of, rows_of, killer_place}

-- a living row of rule p was killed: killer byte j is its, had no killer, and got a column that holds a struck slot
pub record Kill (R : RuleBytes) (slots : List ℕ) (p j old new : ℕ) : Type 0 where
  pub was : old ≡ 255
  pub row : ℕ
  pub inside : row < rows_of R.lengths p
  pub place : j ≡ killer_place p row
  pub column : new < columns_of R.arity p
  pub struck : HoldsStruck R.rows slots R.scope p row new
