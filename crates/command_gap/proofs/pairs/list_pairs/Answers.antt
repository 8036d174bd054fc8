-- Before the first round nothing is listed.
use Rattle.command_gap.proofs.Laws.Pairs.{listed_none}
use Rattle.command_gap.proofs.pairs.list_pairs.Goals as goal

pub loop-i-init : goal.loop-i-init
loop-i-init c = listed_none _
