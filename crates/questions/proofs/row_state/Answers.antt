-- The row's refusal is the answer's; where there is none, the killer's byte lies in the buffer and the code's test of it is the definition's.
use Rattle.std.proofs.Common.{◌≡◌, refl, rules, Err, ℕ, ◌+◌, ◌*◌, get_or, ap₂, ne_eqb, arith}
use Rattle.layout.specs.Places.{killer_of}
use Rattle.layout.specs.Memory.{state_of}
use Rattle.questions.proofs.Laws.Answers.{row_refused, row_given}
use Rattle.questions.proofs.row_state.Goals as goal

pub returns-in_err-row_refusal : goal.returns-in_err-row_refusal
returns-in_err-row_refusal c =
    let a = c.args in
    let e : c.from_residual.result ≡ Err c.in_err-row_refusal.field-0.0 = search rules in
    rw e (row_refused (state_of a.value a.rows.now a.killers.now a.slots.now) a.rule a.row c.in_err-row_refusal.ensures)

pub returns-in-255 : goal.returns-in-255
returns-in-255 c =
    let a = c.args in
    let alive : killer_of a.killers.now a.rule a.row ≡ 255 = rw (c.from.ensures, c.from-2.ensures) at c.in-255.is in
    rw alive at (row_given (state_of a.value a.rows.now a.killers.now a.slots.now) a.rule a.row c.in_ok-row_refusal.ensures refl)

pub returns-in_default : goal.returns-in_default
returns-in_default c =
    let a = c.args in
    let killed = ne_eqb (get_or a.killers.now (64 * c.from.result + c.from-2.result) 0) 255 (λ e. omega (arith, e)) in
    rw killed at
    (row_given (state_of a.value a.rows.now a.killers.now a.slots.now) a.rule a.row c.in_ok-row_refusal.ensures
    (ap₂ (λ (p w : ℕ). killer_of a.killers.now p w) c.from.ensures c.from-2.ensures))
