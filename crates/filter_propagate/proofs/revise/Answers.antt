-- The struck slots of the columns, as they are known, the walk over the rows by them, then the strikes by what it found: `revision_from` joins the three. The strikes keep
-- what is known.
use Rattle.filter_propagate.specs.Laws.Step.{revision_from}
use Rattle.filter_support.specs.Laws.Known.{masks_still, struck_sets}
use Rattle.filter_propagate.proofs.revise.Goals as goal

pub returns : goal.returns
returns c =
    record {
      revision = revision_from _ _ _ _ _ _ _ _ c.cap-n.ensures c.cap-m.ensures (struck_sets c.know_columns.ensures c.column_sets-dead.ensures) c.revise_columns-found.ensures c.strike_columns.ensures.columns_struck;
      known_2 = masks_still c.know_columns.ensures.masks c.strike_columns.ensures.still_known;
    }
