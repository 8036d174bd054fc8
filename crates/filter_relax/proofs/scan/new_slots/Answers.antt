-- What is new is what the walk finds of the wanted.
use Rattle.std.proofs.Common.{arith}
use Rattle.filter_relax.proofs.Laws.Scan.{found_wanted}
use Rattle.filter_relax.proofs.scan.new_slots.Goals as goal

pub returns : goal.returns
returns c = found_wanted (omega arith) c.requires.past_empty c.column_sets-sets.ensures c.scan_columns-found.ensures c.common.ensures
