-- One slot more is counted with each round.
use Rattle.std.proofs.Common.{arith}
use Rattle.model.proofs.Laws.Counts.{count_to_at}
use Rattle.command_mark.proofs.changes.count_struck.Goals as goal

pub returns : goal.returns
returns c = count_to_at {k = 1024} c.loop-i.invariant (omega arith) (omega arith)
