-- The loop keeps what `TakenTo` says: what was entered and what is left are all of the file. A round reads on, so the measure falls.
use Rattle.std.proofs.Common.{refl}
use Rattle.command_file.specs.Laws.Replay.{taken_none, taken_more, file_taken}
use Rattle.command_file.proofs.take_all.Goals as goal

pub loop-position-init : goal.loop-position-init
loop-position-init c = taken_none _ _ _ _ c.told-marks refl refl refl c.requires

pub loop-position-preserved : goal.loop-position-preserved
loop-position-preserved c = (taken_more _ _ _ _ _ _ c.loop-position.invariant c.loop-position-test.true c.take_next.ensures).1

pub returns : goal.returns
returns c = file_taken _ _ _ _ c.loop-position.invariant c.loop-position-test.false
