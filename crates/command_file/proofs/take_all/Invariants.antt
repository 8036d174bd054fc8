-- The loop keeps what `TakenTo` says: what was entered and what is left are all of the file. A round reads on, so the measure falls.
use Rattle.std.proofs.Common.{◌-◌, length}
use Rattle.layout.specs.Memory.{state_of, marked_of}
use Rattle.command_file.specs.Replay.{TakenTo}
use Rattle.command_file.proofs.take_all.Given as goal

abbrev pub invariant-loop-position : goal.invariant-loop-position
invariant-loop-position l =
    TakenTo l.initial.marks l.file l.position (marked_of (state_of l.position.value l.rows l.killers l.slots) l.names l.marks)

abbrev pub decreases-loop-position : goal.decreases-loop-position
decreases-loop-position l = length l.file - l.position.at
