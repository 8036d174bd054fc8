-- The loop has passed no bad count, and `ended` says whether a 0 is among those that it passed.
use Rattle.command_board.specs.Laws.Counts.{GoodSoFar}
use Rattle.command_board.proofs.new_board.bad_counts.Given as goal

abbrev pub invariant-loop-n : goal.invariant-loop-n
invariant-loop-n l = GoodSoFar l.counts l.n-index l.ended
