-- The call's refusal is the answer's; where there is none, the mask is the definition's, and its ones are the open slots.
use Rattle.std.proofs.Common.{◌≡◌, rules, Err}
use Rattle.layout.specs.Memory.{state_of}
use Rattle.questions.proofs.Laws.Answers.{slots_refused, slots_given}
use Rattle.questions.proofs.open_slots.Goals as goal

pub returns-in_err-call_refusal : goal.returns-in_err-call_refusal
returns-in_err-call_refusal c =
    let a = c.args in
    let e : c.from_residual.result ≡ Err c.in_err-call_refusal.field-0.0 = search rules in
    rw e (slots_refused (state_of a.value a.rows.now a.killers.now a.slots.now) a.call c.in_err-call_refusal.ensures)

pub returns : goal.returns
returns c =
    let a = c.args in
    slots_given (state_of a.value a.rows.now a.killers.now a.slots.now) a.call c.in_ok-call_refusal.ensures c.open_mask-mask.ensures
