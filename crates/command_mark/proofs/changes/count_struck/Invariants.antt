-- One slot more is counted with each round.
use Rattle.std.proofs.Common.{◌&&◌, ◌/◌, ◌%◌}
use Rattle.model.specs.Report.{open?, struck?}
use Rattle.model.proofs.Laws.Counts.{CountTo}
use Rattle.command_mark.proofs.changes.count_struck.Given as goal

abbrev pub invariant-loop-i : goal.invariant-loop-i
invariant-loop-i l = CountTo (λ j. open? l.before (j / 32) (j % 32) && struck? l.after (j / 32) (j % 32)) l.i l.n
