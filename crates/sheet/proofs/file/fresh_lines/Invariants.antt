-- The loop keeps what `Reached` says: what is written and what is left to be written are all of the lines. A round reads on, so the measure falls.
use Rattle.std.proofs.Common.{◌-◌, length}
use Rattle.sheet.specs.File.{Reached}
use Rattle.sheet.specs.Advance.{state_on}
use Rattle.sheet.proofs.file.fresh_lines.Given as goal

abbrev pub invariant-loop-progress : goal.invariant-loop-progress
invariant-loop-progress l =
    Reached l.input l.progress (state_on l.board) l.initial.out l.out

abbrev pub decreases-loop-progress : goal.decreases-loop-progress
decreases-loop-progress l = length l.input - l.progress.read
