-- Where the row is refused the part is empty; otherwise the four bytes lie in the buffer, at the definition's place.
use Rattle.std.proofs.Common.{refl, sym, ◌∙◌, arith}
use Rattle.std.proofs.Math.Nat.{add-sub_cancel_left}
use Rattle.layout.specs.Memory.{state_of}
use Rattle.questions.proofs.Laws.Answers.{none_refused, row_bytes_given}
use Rattle.questions.proofs.row_bytes.Goals as goal

pub returns : goal.returns
returns c =
    let a = c.args in
    record {
      promise = rw (add-sub_cancel_left, c.from.ensures, c.from-2.ensures) (row_bytes_given (state_of a.value a.rows.now a.killers.now a.slots.now) a.rule a.row (sym (none_refused _ c.if-is_err.ensures.negation) ∙ c.row_refusal.ensures));
      block = refl;
      place = λ four. omega arith;
    }
