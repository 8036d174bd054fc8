-- The word is that of the plan's slots for the rule's columns.
use Rattle.plan_tables.specs.Laws.Fit.{fitted_by_lem}
use Rattle.plan_tables.proofs.fit.rule_fits.Goals as goal

pub returns : goal.returns
returns c = fitted_by_lem _ _ _ (rw (← c.columns_at.ensures) c.plan_word-wanted.ensures) c.has_word.ensures
