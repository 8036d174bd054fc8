-- One rule more is on its calls with each round.
use Rattle.masks.specs.Rules.{RulesTo}
use Rattle.masks.proofs.rules.rules_on_calls.Given as goal

abbrev pub invariant-loop-q : goal.invariant-loop-q
invariant-loop-q l = RulesTo l.heads.arity l.heads.scope l.q l.on
