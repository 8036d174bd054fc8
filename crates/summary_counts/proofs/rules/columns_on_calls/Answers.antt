-- One rule more is counted with each round.
use Rattle.std.proofs.Common.{refl, arith}
use Rattle.summary_counts.specs.Laws.Rules.{added_bare, on_calls_none, on_calls_more, on_calls_most}
use Rattle.summary_counts.proofs.rules.columns_on_calls.Goals as goal
use Rattle.summary_counts.proofs.rules.columns_on_calls.Goals.{then-n-gt0, else-n-gt0}

pub loop-q-init : goal.loop-q-init
loop-q-init c = on_calls_none _

pub loop-q-preserved : goal.loop-q-preserved
loop-q-preserved c =
    let so_far = c.loop-q.invariant in
    elim c.if-n-gt0.branch [
      | then-n-gt0 w ↦ rw w.on-is (on_calls_more so_far refl w.add_rule.ensures)
      | else-n-gt0 w ↦ rw w.on-is (on_calls_more so_far refl (added_bare c.args.heads.now.scope _ _ _ (omega arith)))
    ]

pub add_rule-requires-clause-at_most : goal.add_rule-requires-clause-at_most
add_rule-requires-clause-at_most c = on_calls_most c.loop-q.invariant
