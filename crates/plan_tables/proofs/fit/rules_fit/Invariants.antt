-- The rules that are taken out of the mask fit.
use Rattle.plan_tables.specs.Laws.Fit.{FitSoFar}
use Rattle.plan_tables.proofs.fit.rules_fit.Given as goal

abbrev pub invariant-loop-left : goal.invariant-loop-left
invariant-loop-left l = FitSoFar l.tables l.plan l.rules l.left

abbrev pub decreases-loop-left : goal.decreases-loop-left
decreases-loop-left l = l.left
