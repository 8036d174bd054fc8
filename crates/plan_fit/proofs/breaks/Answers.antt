-- The words that the code makes are those of the columns and of the plan.
use Rattle.std.proofs.Common.{arith, rules}
use Rattle.plan_fit.specs.Parts.{rule_parts}
use Rattle.plan_fit.specs.Laws.Fits.{no_rule_broken, unbound, broken_unless}
use Rattle.plan_fit.proofs.breaks.Goals as goal

pub returns-then-heads-p-eq0 : goal.returns-then-heads-p-eq0
returns-then-heads-p-eq0 c =
    no_rule_broken (rule_parts c.args.heads.now c.args.rows.now c.args.slots.now) _ _ c.if-heads-p-eq0.true

pub returns-then-mask-eq0 : goal.returns-then-mask-eq0
returns-then-mask-eq0 c =
    unbound (rule_parts c.args.heads.now c.args.rows.now c.args.slots.now) _ (omega arith) _ c.column_calls-calls.ensures c.column_mask-mask.ensures c.if-mask-eq0.true

pub returns : goal.returns
returns c =
    broken_unless (rule_parts c.args.heads.now c.args.rows.now c.args.slots.now) _ (omega arith) _ c.column_calls-calls.ensures c.column_mask-mask.ensures c.plan_word.ensures
    (search rules) c.if-mask-eq0.false c.has_row.ensures
