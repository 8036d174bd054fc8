-- The loop has reached only touched slots, and where it ends every rule is settled; what is unsettled falls with each step.
use Rattle.std.specs.Prelude.{◌<◌}
use Rattle.tables.specs.Masks.{flags_of, all_flags}
use Rattle.filter_propagate.specs.Rules.{rules_in}
use Rattle.filter_relax.specs.Closure.{traversal, unsettled}
use Rattle.filter_relax.proofs.Laws.Closure.{Closing}
use Rattle.filter_relax.proofs.closure.close.Given as goal

abbrev pub invariant-loop-q : goal.invariant-loop-q
invariant-loop-q l =
    (l.last < 64)
    × Closing (rules_in l.rows l.heads) l.killers l.slots (all_flags 32 l.initial.visited) (traversal (all_flags 32 l.visited) (flags_of 32 l.front.calls) (flags_of 64 l.front.pending))

abbrev pub decreases-loop-q : goal.decreases-loop-q
decreases-loop-q l =
    unsettled (traversal (all_flags 32 l.visited) (flags_of 32 l.front.calls) (flags_of 64 l.front.pending))
