-- One record more is made with each round.
use Rattle.std.proofs.Common.{arith}
use Rattle.summary_counts.specs.Laws.Records.{records_more, records_counted}
use Rattle.summary_counts.proofs.records.table_of.Goals as goal

pub loop-c-preserved : goal.loop-c-preserved
loop-c-preserved c = records_more (omega arith) c.loop-c.invariant c.record_of.ensures

pub returns : goal.returns
returns c = records_counted c.columns_on_calls-on.ensures (omega arith) c.loop-c.invariant
