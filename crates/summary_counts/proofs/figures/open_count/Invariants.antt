-- One slot more is counted with each round.
use Rattle.model.specs.Report.{open?}
use Rattle.model.proofs.Laws.Counts.{CountTo}
use Rattle.summary_counts.proofs.figures.open_count.Given as goal

abbrev pub invariant-loop-s : goal.invariant-loop-s
invariant-loop-s l = CountTo (open? l.slots l.c) l.s l.open
