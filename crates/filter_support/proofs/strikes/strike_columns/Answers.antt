-- One column more is treated in each turn, and its call joins the mask exactly where a slot of it was struck. Each turn keeps what is known.
use Rattle.std.proofs.Common.{arith}
use Rattle.filter_support.specs.Laws.Strikes.{strikes_fit, columns_none, columns_more}
use Rattle.filter_support.specs.Laws.Known.{still_none, still_more}
use Rattle.filter_support.proofs.strikes.strike_columns.Goals as goal

pub loop-k-init : goal.loop-k-init
loop-k-init c = (columns_none _ _ _ _, still_none _ _)

pub overflow_add-number : goal.overflow_add-number
overflow_add-number c = omega (arith, strikes_fit _ _ _ c.loop-k.invariant.0.strikes c.strike_call-d.ensures.slots_struck)

pub loop-k-preserved : goal.loop-k-preserved
loop-k-preserved c =
    let i = c.loop-k.invariant in
    let call = c.strike_call-d.ensures in
    let struck = rw (c.column-held.ensures, c.from-c.ensures, c.from.ensures) at call.slots_struck in
    (columns_more _ _ _ (omega arith) i.0 struck (rw (c.from-c.ensures, c.from.ensures) at c.with_call-calls.ensures), still_more i.1 call.still_known)
