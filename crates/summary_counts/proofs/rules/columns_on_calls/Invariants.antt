-- One rule more is counted with each round.
use Rattle.summary_counts.specs.Rules.{ColumnsTo}
use Rattle.summary_counts.proofs.rules.columns_on_calls.Given as goal

abbrev pub invariant-loop-q : goal.invariant-loop-q
invariant-loop-q l = ColumnsTo l.heads l.q l.on
