-- The code's tests of the slot's byte are the definition's.
use Rattle.std.proofs.Common.{ne_eqb, arith}
use Rattle.layout.specs.Memory.{state_of}
use Rattle.questions.proofs.Laws.Answers.{state_given}
use Rattle.questions.proofs.slot_state.Goals as goal

pub returns-in_default : goal.returns-in_default
returns-in_default c =
    let a = c.args in
    rw (ne_eqb c.byte_at.result 255 (λ e. omega (arith, e)), ne_eqb c.byte_at.result 253 (λ e. omega (arith, e))) at
    (state_given (state_of a.value a.rows.now a.killers.now a.slots.now) a.call a.slot c.in_ok-slot_refusal.ensures
    (rw (c.from.ensures, c.from-2.ensures) at c.byte_at.ensures))
