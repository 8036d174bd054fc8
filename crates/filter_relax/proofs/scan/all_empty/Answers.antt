-- An OR that is 0 is one of empty sets.
use Rattle.filter_relax.proofs.Laws.Scan.{columns_empty}
use Rattle.filter_relax.proofs.scan.all_empty.Goals as goal

pub returns : goal.returns
returns c = columns_empty _
