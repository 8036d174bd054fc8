-- One slot more is counted with each round.
use Rattle.std.proofs.Common.{◌/◌, ◌%◌}
use Rattle.model.specs.Report.{open?}
use Rattle.model.proofs.Laws.Counts.{CountTo}
use Rattle.summary_counts.proofs.figures.open_total.Given as goal

abbrev pub invariant-loop-b : goal.invariant-loop-b
invariant-loop-b l = CountTo (λ j. open? l.slots (j / 32) (j % 32)) l.b-index l.n
