-- None of the rules before p is broken.
use Rattle.model.proofs.Laws.Search.{NoneBelow}
use Rattle.plan_model.specs.Plans.{rules_in, breaks?}
use Rattle.plan_fit.specs.Parts.{rule_parts}
use Rattle.plan_check.proofs.broken.lowest_broken.Given as goal

abbrev pub invariant-loop-p : goal.invariant-loop-p
invariant-loop-p l = NoneBelow (breaks? (rules_in (rule_parts l.heads l.rows l.slots)) l.plan) l.p
