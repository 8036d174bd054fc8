-- The rule is on the call of one column more with each round.
use Rattle.std.proofs.Common.{arith}
use Rattle.tables.specs.Laws.Masks.{shl_one}
use Rattle.masks.specs.Laws.Rules.{inserted_more}
use Rattle.masks.proofs.rules.add_rule.Goals as goal

pub loop-k-preserved : goal.loop-k-preserved
loop-k-preserved c = rw (c.from-c.ensures, shl_one 64 c.args.q c.requires.q_bound) (inserted_more _ _ _ c.loop-k.invariant (omega arith))
