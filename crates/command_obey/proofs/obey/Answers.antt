-- Each arm hands on what the function of its kind promises.
use native.Mathlib.Omega.{arith}
use Rattle.command_obey.proofs.Laws.Obeys.{other_obeys, board_obeys, mark_obeys}
use Rattle.command_obey.proofs.obey.Goals as goal

pub returns-in-Board : goal.returns-in-Board
returns-in-Board c =
    board_obeys c.in-Board.is c.make_anew.ensures

pub returns-in-Head : goal.returns-in-Head
returns-in-Head c = other_obeys c.in-Head.is tt (c.start_draft.ensures _ _ _)

pub returns-in-Row : goal.returns-in-Row
returns-in-Row c = other_obeys c.in-Row.is tt (c.add_row.ensures _ _ _ _)

pub returns-in-Post : goal.returns-in-Post
returns-in-Post c =
    other_obeys c.in-Post.is tt (c.post.ensures _)

pub returns-in-Retract : goal.returns-in-Retract
returns-in-Retract c =
    other_obeys c.in-Retract.is tt (c.retract.ensures _)

pub returns-in-Gap : goal.returns-in-Gap
returns-in-Gap c = other_obeys c.in-Gap.is tt (c.draft_gap.ensures _ _ _)

pub returns-in-Keep : goal.returns-in-Keep
returns-in-Keep c =
    mark_obeys c.in-Keep.is (omega arith) (c.keep_board.ensures _)

pub returns-in-Back : goal.returns-in-Back
returns-in-Back c =
    mark_obeys c.in-Back.is (omega arith) (c.back_board.ensures _)

pub returns-in-Cancel : goal.returns-in-Cancel
returns-in-Cancel c =
    other_obeys c.in-Cancel.is tt (c.cancel_call.ensures _)
