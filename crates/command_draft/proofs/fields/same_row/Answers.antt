-- The two parts are compared slot by slot.
use Rattle.std.proofs.Common.{◌∙◌, ◌*◌, arith}
use Rattle.command_draft.proofs.Laws.Lists.{same_parts}
use Rattle.command_draft.proofs.fields.same_row.Goals as goal

pub returns : goal.returns
returns c =
    let a = c.args in
    c.eq.ensures ∙ same_parts a.n (4 * a.v) a.rows.now a.slots.now (omega arith) (omega arith)
