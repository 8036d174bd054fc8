-- The columns past the rule's are empty, so without them the sets are the same.
use Rattle.std.proofs.Common.{arith}
use Rattle.filter_support.specs.Laws.Walk.{walked_two, walked_three, walked_past}
use Rattle.filter_support.proofs.rows.revise_columns.Goals as goal

pub returns-then-n-lt3 : goal.returns-then-n-lt3
returns-then-n-lt3 c =
    let first = c in
    let walked = walked_past 2 (omega arith) _ (omega arith) first.requires.past_empty (rw c.first_columns.ensures at c.revise_rows-found.ensures) in
    rw c.first_columns-then-n-lt3.ensures (walked_two _ (omega arith) walked)

pub returns-then-n-lt4 : goal.returns-then-n-lt4
returns-then-n-lt4 c =
    let first = c in
    let walked = walked_past 3 (omega arith) _ (omega arith) first.requires.past_empty (rw c.first_columns-then-n-lt4.ensures at c.revise_rows-found-then-n-lt4.ensures) in
    rw c.first_columns-then-n-lt4-2.ensures (walked_three _ (omega arith) walked)
