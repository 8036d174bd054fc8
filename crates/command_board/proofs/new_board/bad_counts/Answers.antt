-- The loop has passed no bad count, and `ended` says whether a 0 is among those that it passed.
use Rattle.std.proofs.Common.{sym, ◌∙◌, arith}
use Rattle.command_board.specs.Laws.Counts.{good_all, bad_found}
use Rattle.command_board.proofs.new_board.bad_counts.Goals as goal

pub returns-then-bad_count : goal.returns-then-bad_count
returns-then-bad_count c =
    sym (bad_found _ c.loop-n.n-index c.loop-n.ended c.loop-n.invariant (omega arith) (sym c.bad_count.ensures ∙ c.if-bad_count.true))

pub returns : goal.returns
returns c =
    sym (good_all _ c.loop-n.n-index c.loop-n.ended c.loop-n.invariant (omega arith))
