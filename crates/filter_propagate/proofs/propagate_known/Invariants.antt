-- The loop has made steps from the start, and has counted by how many fewer slots are open; what remains falls with each step.
use Rattle.std.specs.Prelude.{◌≡◌, ◌+◌, ◌<◌}
use Rattle.tables.specs.Count.{count}
use Rattle.tables.specs.Masks.{flags_of}
use Rattle.filter_propagate.specs.Rules.{rules_in, reached}
use Rattle.filter_support.specs.Strikes.{is_open}
use Rattle.filter_support.specs.Known.{Known}
use Rattle.filter_propagate.specs.Step.{remaining}
use Rattle.filter_propagate.specs.Steps.{Steps}
use Rattle.filter_propagate.proofs.propagate_known.Given as goal

abbrev pub invariant-loop-p : goal.invariant-loop-p
invariant-loop-p l =
    (l.last < 64)
    × Steps (rules_in l.rows l.heads) (reached l.initial.killers l.initial.slots (flags_of 64 l.pending)) (reached l.killers l.slots (flags_of 64 l.left))
    × (count is_open l.slots + l.total ≡ count is_open l.initial.slots) × Known l.slots l.masks

abbrev pub decreases-loop-p : goal.decreases-loop-p
decreases-loop-p l =
    remaining (reached l.killers l.slots (flags_of 64 l.left))
