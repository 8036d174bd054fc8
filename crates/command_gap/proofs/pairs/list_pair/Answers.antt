-- The place's pair is written behind the others and counted, or passed over.
use Rattle.std.proofs.Common.{refl, arith}
use Rattle.command_gap.proofs.Laws.Pairs.{listed_more, listed_few}
use Rattle.command_gap.proofs.pairs.list_pair.Goals as goal

pub overflow_add-result : goal.overflow_add-result
overflow_add-result c = omega (arith, listed_few c.requires.listed_to, c.requires.i_bound)

pub returns-then-passes : goal.returns-then-passes
returns-then-passes c =
    listed_more c.requires.listed_to (omega arith) refl c.passes.ensures c.if-passes.true c.write_pair.ensures
