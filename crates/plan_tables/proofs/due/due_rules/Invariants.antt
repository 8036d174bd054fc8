-- The rules before p have joined.
use Rattle.plan_tables.specs.Due.{DueRules}
use Rattle.plan_tables.proofs.due.due_rules.Given as goal

abbrev pub invariant-loop-p : goal.invariant-loop-p
invariant-loop-p l = DueRules l.held l.columns l.p l.due
