-- One rule more is on its calls with each round.
use Rattle.masks.specs.Laws.Rules.{rules_none}
use Rattle.masks.proofs.rules.rules_on_calls.Goals as goal

pub loop-q-init : goal.loop-q-init
loop-q-init c = rules_none _ _
