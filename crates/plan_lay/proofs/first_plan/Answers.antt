-- The first check that holds decides; behind them the search does.
use Rattle.std.proofs.Common.{◌≡◌, rules, Err, eqb-true}
use Rattle.std.proofs.lemmas.Bool.{eqb-false}
use Rattle.layout.specs.Memory.{memory}
use Rattle.plan_lay.specs.Laws.Answers.{killers_refused, slots_refused, board_refused, first_given}
use Rattle.plan_lay.proofs.first_plan.Goals as goal

pub returns-in_default : goal.returns-in_default
returns-in_default c =
    slots_refused (memory c.args.value c.args.rows.now c.args.killers.now c.args.slots.now) c.args.ceiling
    c.in_default.ensures.cases.long c.in_default.ensures'.cases.long c.in_default.ensures''.cases

pub returns-in_default-2 : goal.returns-in_default-2
returns-in_default-2 c =
    killers_refused (memory c.args.value c.args.rows.now c.args.killers.now c.args.slots.now) c.args.ceiling c.in_default.ensures.cases.long c.in_default.ensures'.cases

pub returns-in_err-when : goal.returns-in_err-when
returns-in_err-when c =
    let e : c.from_residual.result ≡ Err c.in_err-when.field-0.0 = search rules in
    rw (e, c.in_err-when.ensures.1)
    (board_refused (memory c.args.value c.args.rows.now c.args.killers.now c.args.slots.now) c.args.ceiling c.in-Some-Some-Some.ensures.cases.long c.in-Some-Some-Some.ensures'.cases.long c.in-Some-Some-Some.ensures''.cases.long (eqb-true _ _ c.in_err-when.ensures.0))

pub returns : goal.returns
returns c =
    first_given (memory c.args.value c.args.rows.now c.args.killers.now c.args.slots.now) c.args.ceiling c.in-Some-Some-Some.ensures.cases.long c.in-Some-Some-Some.ensures'.cases.long c.in-Some-Some-Some.ensures''.cases.long (eqb-false _ _ c.in_ok-when.ensures)
    (rw (c.in-Some-Some-Some.ensures.cases.same, c.in-Some-Some-Some.ensures''.cases.same) at c.lay_plan.ensures)
