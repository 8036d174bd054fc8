-- The calls are at most 32, and each has a line of at most 91 bytes; behind them there is room for the line of the whole. Where there is no call nothing is written.
use Rattle.sheet.specs.Laws.File.{calls_most, calls_room, none_appended, total_asks, board_appended}
use Rattle.sheet.proofs.file.board_lines.Goals as goal

pub returns-then-n-eq0 : goal.returns-then-n-eq0
returns-then-n-eq0 c =
    none_appended c.args.counts.now c.told-counts _ c.call_count-n.ensures c.args.slots.now c.if-n-eq0.true _ _

pub call_lines-listed-requires : goal.call_lines-listed-requires
call_lines-listed-requires c =
    record { room = calls_room c.args.counts.now c.told-counts _ c.call_count-n.ensures _ c.requires; n_bound = calls_most c.args.counts.now c.told-counts _ c.call_count-n.ensures }

pub total_line-requires : goal.total_line-requires
total_line-requires c =
    let both =
    total_asks c.args.counts.now c.told-counts _ c.call_count-n.ensures c.args.slots.now _ c.open_total-total.ensures
    c.call_lines-listed.ensures c.requires in
    record { room = both.0; total_lt_decimal_end = both.1 }

pub returns : goal.returns
returns c =
    board_appended c.args.counts.now c.told-counts _ c.call_count-n.ensures c.args.slots.now _ c.open_total-total.ensures
    c.call_lines-listed.ensures c.if-n-eq0.false c.total_line.ensures
