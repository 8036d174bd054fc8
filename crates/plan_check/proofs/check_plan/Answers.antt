-- The first check that holds decides; behind them the lowest broken rule does.
use Rattle.std.proofs.Common.{◌≡◌, rules, Err, eqb-true}
use Rattle.std.proofs.lemmas.Bool.{eqb-false}
use Rattle.layout.specs.Memory.{memory}
use Rattle.plan_check.specs.Laws.Answers.{killers_refused, slots_refused, length_refused, board_refused, byte_refused, plan_given}
use Rattle.plan_check.proofs.check_plan.Goals as goal

pub returns-in_default : goal.returns-in_default
returns-in_default c =
    slots_refused (memory c.args.value c.args.rows.now c.args.killers.now c.args.slots.now) c.args.plan.now
    c.in_default.ensures.cases.long c.in_default.ensures'.cases.long c.in_default.ensures''.cases

pub returns-in_default-2 : goal.returns-in_default-2
returns-in_default-2 c =
    killers_refused (memory c.args.value c.args.rows.now c.args.killers.now c.args.slots.now) c.args.plan.now c.in_default.ensures.cases.long c.in_default.ensures'.cases

pub returns-in_default-as_array : goal.returns-in_default-as_array
returns-in_default-as_array c =
    length_refused (memory c.args.value c.args.rows.now c.args.killers.now c.args.slots.now) c.args.plan.now c.in-Some-Some-Some.ensures.cases.long c.in-Some-Some-Some.ensures'.cases.long c.in-Some-Some-Some.ensures''.cases.long c.in_default-as_array.ensures.cases

pub returns-in_err-when : goal.returns-in_err-when
returns-in_err-when c =
    let e : c.from_residual.result ≡ Err c.in_err-when.field-0.0 = search rules in
    rw (e, c.in_err-when.ensures.1)
    (board_refused (memory c.args.value c.args.rows.now c.args.killers.now c.args.slots.now) c.args.plan.now c.in-Some-Some-Some.ensures.cases.long c.in-Some-Some-Some.ensures'.cases.long c.in-Some-Some-Some.ensures''.cases.long c.in-Some.ensures.cases.long (eqb-true _ _ c.in_err-when.ensures.0))

pub returns-in_err-when-2 : goal.returns-in_err-when-2
returns-in_err-when-2 c =
    let e : c.from_residual-in_err-when-2.result ≡ Err c.in_err-when-2.field-0.0 = search rules in
    rw (e, c.in_err-when-2.ensures.1)
    (byte_refused (memory c.args.value c.args.rows.now c.args.killers.now c.args.slots.now) c.args.plan.now c.in-Some-Some-Some.ensures.cases.long c.in-Some-Some-Some.ensures'.cases.long c.in-Some-Some-Some.ensures''.cases.long c.in-Some.ensures.cases.long (eqb-false _ _ c.in_ok-when.ensures)
    (rw (c.in-Some-Some-Some.ensures''.cases.same, c.in-Some.ensures.cases.same) at c.wrong_plan.ensures) c.in_err-when-2.ensures.0)

pub returns : goal.returns
returns c =
    plan_given (memory c.args.value c.args.rows.now c.args.killers.now c.args.slots.now) c.args.plan.now c.in-Some-Some-Some.ensures.cases.long c.in-Some-Some-Some.ensures'.cases.long c.in-Some-Some-Some.ensures''.cases.long c.in-Some.ensures.cases.long (eqb-false _ _ c.in_ok-when.ensures)
    (rw (c.in-Some-Some-Some.ensures''.cases.same, c.in-Some.ensures.cases.same) at c.wrong_plan.ensures) c.in_ok-when-2.ensures (rw (c.in-Some-Some-Some.ensures.cases.same, c.in-Some-Some-Some.ensures''.cases.same, c.in-Some.ensures.cases.same) at c.lowest_broken.ensures)
