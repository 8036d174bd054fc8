-- The rule is on the call of one column more with each round.
use Rattle.masks.specs.Rules.{Inserted, ScopeRule}
use Rattle.masks.proofs.rules.add_rule.Given as goal

abbrev pub invariant-loop-k : goal.invariant-loop-k
invariant-loop-k l = Inserted (ScopeRule l.scope l.q l.k) l.initial.on l.on
