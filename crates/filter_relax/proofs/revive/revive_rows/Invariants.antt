-- One row more is treated in each round.
use Rattle.std.proofs.Common.{◌*◌}
use Rattle.tables.specs.Sweep.{Swept}
use Rattle.filter_relax.specs.Revive.{MaskRevived}
use Rattle.filter_relax.proofs.revive.revive_rows.Given as goal

abbrev pub invariant-loop-w : goal.invariant-loop-w
invariant-loop-w l = Swept 0 (MaskRevived l.rows l.sets l.q) (64 * l.q) l.w l.initial.killers l.killers
