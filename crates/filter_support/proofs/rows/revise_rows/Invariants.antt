-- One row more is treated in each turn.
use Rattle.filter_support.specs.Walk.{Walked}
use Rattle.filter_support.proofs.rows.revise_rows.Given as goal

abbrev pub invariant-loop-w : goal.invariant-loop-w
invariant-loop-w l = Walked l.rows l.struck l.p l.w l.initial.killers l.killers l.found
