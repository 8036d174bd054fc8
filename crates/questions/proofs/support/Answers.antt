-- The refusal of the checks is the answer's. Where there is none, the code's test of the column's call is the definition's; in an active column the search may look at
-- every row of the rule.
use Rattle.std.proofs.Common.{◌≡◌, rules, Err}
use Rattle.layout.specs.Memory.{state_of}
use Rattle.questions.proofs.Laws.Answers.{support_refused, support_given, support_cancelled}
use Rattle.questions.proofs.support.Goals as goal

pub returns-in_err-support_refusal : goal.returns-in_err-support_refusal
returns-in_err-support_refusal c =
    let a = c.args in
    let e : c.from_residual.result ≡ Err c.in_err-support_refusal.field-0.0 = search rules in
    rw e (support_refused (state_of a.value a.rows.now a.killers.now a.slots.now) a.rule a.column a.slot c.in_err-support_refusal.ensures)

pub returns-then-is_cancelled : goal.returns-then-is_cancelled
returns-then-is_cancelled c =
    let a = c.args in
    support_cancelled (state_of a.value a.rows.now a.killers.now a.slots.now) a.rule a.column a.slot c.in_ok-support_refusal.ensures
    (rw (c.is_cancelled.ensures, c.call_of.ensures) at c.if-is_cancelled.true)

pub returns : goal.returns
returns c =
    let a = c.args in
    support_given (state_of a.value a.rows.now a.killers.now a.slots.now) a.rule a.column a.slot c.in_ok-support_refusal.ensures
    (rw (c.is_cancelled.ensures, c.call_of.ensures) at c.if-is_cancelled.false) c.lowest_support.ensures
