-- Bad counts change nothing; others make a board of them on any memory.
use Rattle.std.proofs.Common.{sym, ◌∙◌}
use Rattle.command_board.specs.Laws.Made.{makes_new}
use Rattle.command_board.proofs.new_board.make_board.Goals as goal

pub returns : goal.returns
returns c =
    rw (c.accepted.ensures, c.bare_value.ensures)
    (makes_new _ c.well_formed.1.0.1.0.1 (sym c.bad_counts.ensures ∙ c.if-bad_counts.false) _ _ _ c.clear.ensures _)
