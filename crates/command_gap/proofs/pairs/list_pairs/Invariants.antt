-- One place more is looked at with each round.
use Rattle.model.specs.Gaps.{pair_test}
use Rattle.command_gap.specs.Pairs.{ListedTo}
use Rattle.command_gap.proofs.pairs.list_pairs.Given as goal

abbrev pub invariant-loop-i : goal.invariant-loop-i
invariant-loop-i l = ListedTo (pair_test l.test.form l.test.gap l.test.seconds) l.i l.rows l.count
