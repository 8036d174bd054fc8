-- One column more is treated in each turn, and its call joins the mask exactly where a slot of it was struck. Each turn keeps what is known.
use Rattle.filter_support.specs.Strikes.{NotIn, ColumnsStruck}
use Rattle.filter_support.specs.Known.{StillKnown}
use Rattle.filter_support.proofs.strikes.strike_columns.Given as goal

abbrev pub invariant-loop-k : goal.invariant-loop-k
invariant-loop-k l =
    ColumnsStruck (NotIn l.found) l.scope l.p l.k l.number l.calls l.initial.slots l.slots × StillKnown l.initial.slots l.initial.masks l.slots l.masks
