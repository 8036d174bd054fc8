-- One record more is made with each round.
use Rattle.summary_counts.specs.Laws.Records.{RecordsTo}
use Rattle.summary_counts.proofs.records.table_of.Given as goal

abbrev pub invariant-loop-c : goal.invariant-loop-c
invariant-loop-c l = RecordsTo l.slots l.heads.counts l.on l.c l.table.records
