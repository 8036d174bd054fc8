-- One column more is counted with each round, so that no number has grown by more than the columns that are.
use Rattle.std.proofs.Common.{◌+◌, ◌*◌}
use Rattle.summary_counts.specs.Rules.{AtMost, ColumnsAdded}
use Rattle.summary_counts.proofs.rules.add_rule.Given as goal

abbrev pub invariant-loop-k : goal.invariant-loop-k
invariant-loop-k l = record {
  most : AtMost (4 * l.q + l.k) l.on;
  added : ColumnsAdded l.scope l.q l.n l.k l.initial.on l.on;
}
