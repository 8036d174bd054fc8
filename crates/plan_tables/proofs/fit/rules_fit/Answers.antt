-- The rules that are taken out of the mask fit.
use Rattle.std.proofs.Common.{sym, ◌∙◌}
use Rattle.plan_tables.specs.Laws.Fit.{fit_more, fit_all, fit_fails}
use Rattle.plan_tables.proofs.fit.rules_fit.Goals as goal

pub returns-then-not-rule_fits : goal.returns-then-not-rule_fits
returns-then-not-rule_fits c =
    fit_fails _ _ c.loop-left-test.true c.loop-left.invariant (sym c.rule_fits.ensures ∙ c.if-not-rule_fits.true)

pub loop-left-preserved : goal.loop-left-preserved
loop-left-preserved c =
    fit_more _ _ c.loop-left-test.true c.loop-left.invariant
    (sym c.rule_fits.ensures ∙ c.if-not-rule_fits.false)

pub returns : goal.returns
returns c = fit_all _ _ c.loop-left-test.false c.loop-left.invariant
