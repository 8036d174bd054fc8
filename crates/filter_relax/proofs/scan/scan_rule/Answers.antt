-- Where something is wanted, what is new is what a row justifies; else all that a row justifies is visited already.
use Rattle.filter_relax.proofs.Laws.Scan.{scans_quiet, scans_new}
use Rattle.filter_relax.proofs.scan.scan_rule.Goals as goal

pub returns-then-all_empty : goal.returns-then-all_empty
returns-then-all_empty c = scans_quiet _ _ _ _ _ _ c.cap-n.ensures (search) _ c.columns_wanted-wanted.ensures (c.all_empty.ensures.none c.if-all_empty.true)

pub returns : goal.returns
returns c =
    scans_new _ _ _ _ _ _ c.cap-n.ensures (search) _ c.columns_wanted-wanted.ensures c.cap-m.ensures c.new_slots-new.ensures c.visit_columns.ensures
