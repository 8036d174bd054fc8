-- With no call known the tables may hold anything.
use Rattle.filter_support.specs.Laws.Known.{known_none}
use Rattle.filter_propagate.proofs.propagate.Goals as goal

pub propagate_known-requires : goal.propagate_known-requires
propagate_known-requires c = record { rules_on = c.requires; known = known_none _ _ c.none-masks.ensures }
