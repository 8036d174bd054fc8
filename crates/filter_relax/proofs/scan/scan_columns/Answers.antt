-- The columns past the rule's are empty, so without them the sets are the same.
use Rattle.std.proofs.Common.{◌∙◌, arith}
use Rattle.masks.specs.Laws.Columns.{first_same}
use Rattle.filter_relax.proofs.Laws.Scan.{scanned_first}
use Rattle.filter_relax.proofs.scan.scan_columns.Goals as goal

pub returns-then-n-lt3 : goal.returns-then-n-lt3
returns-then-n-lt3 c =
    let same = c.first_columns.ensures ∙ first_same 2 (omega arith) _ _ (omega arith) c.requires.past_empty in
    rw c.first_columns-then-n-lt3.ensures (scanned_first 2 (omega arith) (omega arith) _ (omega arith) (rw same at c.scan_rows-found.ensures))

pub returns-then-n-lt4 : goal.returns-then-n-lt4
returns-then-n-lt4 c =
    let same = c.first_columns-then-n-lt4.ensures ∙ first_same 3 (omega arith) _ _ (omega arith) c.requires.past_empty in
    rw c.first_columns-then-n-lt4-2.ensures (scanned_first 3 (omega arith) (omega arith) _ (omega arith) (rw same at c.scan_rows-found-then-n-lt4.ensures))
