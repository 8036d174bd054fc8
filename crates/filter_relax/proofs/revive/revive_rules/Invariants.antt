-- The killers of the rules that are not left are treated; the lowest of those left is next.
use Rattle.tables.specs.Masks.{all_flags}
use Rattle.filter_propagate.specs.Rules.{rules_in}
use Rattle.filter_relax.specs.Revive.{RuleFreed}
use Rattle.filter_relax.proofs.Laws.Revive.{RulesRevived}
use Rattle.filter_relax.proofs.revive.revive_rules.Given as goal

abbrev pub invariant-loop-left : goal.invariant-loop-left
invariant-loop-left l = RulesRevived (RuleFreed (rules_in l.rows l.heads) (all_flags 32 l.visited)) l.rules l.left l.initial.killers l.killers

abbrev pub decreases-loop-left : goal.decreases-loop-left
decreases-loop-left l = l.left
