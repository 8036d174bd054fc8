-- Each entry loses the rule in its round.
use Rattle.std.proofs.Common.{arith}
use Rattle.tables.specs.Laws.Sweep.{swept_at}
use Rattle.masks.specs.Laws.Rules.{dropped}
use Rattle.masks.proofs.rules.drop_rule.Goals as goal

pub returns : goal.returns
returns c = dropped (swept_at _ _ _ c.loop-c.invariant (omega arith) (omega arith))
