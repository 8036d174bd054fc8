-- None of the rules before p is broken.
use Rattle.std.proofs.Common.{sym, ◌∙◌, arith}
use Rattle.plan_model.specs.Plans.{rules_in}
use Rattle.plan_fit.specs.Parts.{rule_parts}
use Rattle.plan_check.specs.Laws.Answers.{broken_found, broken_none}
use Rattle.plan_check.proofs.broken.lowest_broken.Goals as goal

pub returns-then-breaks : goal.returns-then-breaks
returns-then-breaks c =
    broken_found (rules_in (rule_parts c.args.heads.now c.args.rows.now c.args.slots.now)) c.args.plan.now
    c.loop-p.invariant (omega arith) (rw c.from.ensures at (sym c.if-breaks.true ∙ c.breaks.ensures))

pub returns : goal.returns
returns c =
    broken_none (rules_in (rule_parts c.args.heads.now c.args.rows.now c.args.slots.now)) c.args.plan.now
    c.loop-p.invariant (omega arith) (omega arith)
