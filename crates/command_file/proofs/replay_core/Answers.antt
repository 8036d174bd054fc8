-- The lengths of the buffers are tested first; then the file is taken on arrays that hold what the buffers do.
use Rattle.command_run.specs.Laws.Store.{bad_rows, bad_killers, bad_slots, bad_marks}
use Rattle.command_file.specs.Laws.Replay.{replay_lengths}
use Rattle.command_file.proofs.replay_core.Goals as goal

pub returns-in_default : goal.returns-in_default
returns-in_default c = rw c.refused.ensures (replay_lengths _ _ _ (bad_rows _ _ c.in_default.ensures.cases))

pub returns-in_default-as_mut_array : goal.returns-in_default-as_mut_array
returns-in_default-as_mut_array c =
    rw (c.refused-in_default-as_mut_array.ensures, c.in-Some.ensures.cases.same)
    (replay_lengths _ _ _ (bad_killers _ _ c.in-Some.ensures.cases.long c.in_default-as_mut_array.ensures.cases))

pub returns-in_default-as_mut_array-2 : goal.returns-in_default-as_mut_array-2
returns-in_default-as_mut_array-2 c =
    rw (c.refused-in_default-as_mut_array-2.ensures, c.in-Some.ensures.cases.same, c.in-Some-as_mut_array.ensures.cases.same)
    (replay_lengths _ _ _ (bad_slots _ _ c.in-Some.ensures.cases.long c.in-Some-as_mut_array.ensures.cases.long c.in_default-as_mut_array-2.ensures.cases))

pub returns-in_default-marks_array : goal.returns-in_default-marks_array
returns-in_default-marks_array c =
    rw (c.refused-in_default-marks_array.ensures, c.in-Some.ensures.cases.same, c.in-Some-as_mut_array.ensures.cases.same, c.in-Some-as_mut_array-2.ensures.cases.same)
    (replay_lengths _ _ _ (bad_marks _ _ c.in-Some.ensures.cases.long c.in-Some-as_mut_array.ensures.cases.long c.in-Some-as_mut_array-2.ensures.cases.long c.in_default-marks_array.ensures.cases))

pub returns : goal.returns
returns c =
    rw (c.in-Some.ensures.cases.same, c.in-Some-as_mut_array.ensures.cases.same, c.in-Some-as_mut_array-2.ensures.cases.same, c.in-Some-marks_array.ensures.cases.same) at
    c.replay_buffers.ensures
