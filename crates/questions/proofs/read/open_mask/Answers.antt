-- The loop's invariant: the slots below s are in the mask. Each round adds slot s, by its weight.
use Rattle.std.proofs.Common.{arith, sym, ◌∙◌, eq-eqb}
use Rattle.questions.proofs.Laws.Mask.{summed_more, summed_fits}
use Rattle.questions.proofs.read.open_mask.Goals as goal

pub overflow_add-mask : goal.overflow_add-mask
overflow_add-mask c =
    omega (arith, summed_fits (summed_more c.loop-s.invariant (omega arith) c.slot_weights-weights.ensures (eq-eqb _ _ (rw c.from-base.ensures at (sym c.byte_at.ensures ∙ c.if-byte_at.true)))))
