-- The call of one column more is known after each turn.
use Rattle.filter_support.specs.Known.{ColumnCall, Learnt}
use Rattle.filter_support.proofs.known.know_columns.Given as goal

abbrev pub invariant-loop-k : goal.invariant-loop-k
invariant-loop-k l = Learnt (ColumnCall l.scope l.p l.k) l.slots l.initial.masks l.masks
