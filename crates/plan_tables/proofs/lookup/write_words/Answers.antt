-- The rules before p have their words.
use Rattle.plan_tables.specs.Laws.Lookup.{all_more}
use Rattle.plan_tables.proofs.lookup.write_words.Goals as goal

pub loop-p-preserved : goal.loop-p-preserved
loop-p-preserved c =
    all_more _ _ _ c.loop-p.invariant c.cap-held.ensures (rw (← c.columns_at.ensures) c.column_mask-mask.ensures) c.rule_words.ensures
