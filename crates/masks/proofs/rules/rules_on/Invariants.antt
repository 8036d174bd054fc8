-- The rules on the calls that are not left are gathered; the lowest of those left is next.
use Rattle.masks.specs.Laws.Rules.{Gathered}
use Rattle.masks.proofs.rules.rules_on.Given as goal

abbrev pub invariant-loop-left : goal.invariant-loop-left
invariant-loop-left l = Gathered l.on l.calls l.rules l.left

abbrev pub decreases-loop-left : goal.decreases-loop-left
decreases-loop-left l = l.left
