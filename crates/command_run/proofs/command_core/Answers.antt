-- The lengths are tested first, of the buffers and of the table; then the command is obeyed, and its records are counted.
use Rattle.std.proofs.Common.{refl}
use Rattle.command_run.specs.Laws.Store.{bad_rows, bad_killers, bad_slots, bad_marks, good_buffers, stores_lengths, stores_table, stores_done}
use Rattle.command_run.proofs.command_core.Goals as goal

pub returns-in_default : goal.returns-in_default
returns-in_default c =
    rw (c.none_to_store.ensures, c.refused.ensures) (stores_lengths _ _ _ (bad_rows _ _ c.in_default.ensures.cases))

pub returns-in_default-as_mut_array : goal.returns-in_default-as_mut_array
returns-in_default-as_mut_array c =
    rw (c.none_to_store-in_default-as_mut_array.ensures, c.refused-in_default-as_mut_array.ensures, c.in-Some.ensures.cases.same)
    (stores_lengths _ _ _ (bad_killers _ _ c.in-Some.ensures.cases.long c.in_default-as_mut_array.ensures.cases))

pub returns-in_default-as_mut_array-2 : goal.returns-in_default-as_mut_array-2
returns-in_default-as_mut_array-2 c =
    rw (c.none_to_store-in_default-as_mut_array-2.ensures, c.refused-in_default-as_mut_array-2.ensures, c.in-Some.ensures.cases.same, c.in-Some-as_mut_array.ensures.cases.same)
    (stores_lengths _ _ _ (bad_slots _ _ c.in-Some.ensures.cases.long c.in-Some-as_mut_array.ensures.cases.long c.in_default-as_mut_array-2.ensures.cases))

pub returns-in_default-marks_array : goal.returns-in_default-marks_array
returns-in_default-marks_array c =
    rw (c.none_to_store-in_default-marks_array.ensures, c.refused-in_default-marks_array.ensures, c.in-Some.ensures.cases.same, c.in-Some-as_mut_array.ensures.cases.same, c.in-Some-as_mut_array-2.ensures.cases.same)
    (stores_lengths _ _ _ (bad_marks _ _ c.in-Some.ensures.cases.long c.in-Some-as_mut_array.ensures.cases.long c.in-Some-as_mut_array-2.ensures.cases.long c.in_default-marks_array.ensures.cases))

pub returns-then-n-ne-RECORDS : goal.returns-then-n-ne-RECORDS
returns-then-n-ne-RECORDS c =
    rw (c.none_to_store-then-n-ne-RECORDS.ensures, c.refused-then-n-ne-RECORDS.ensures, c.in-Some.ensures.cases.same, c.in-Some-as_mut_array.ensures.cases.same, c.in-Some-as_mut_array-2.ensures.cases.same, c.in-Some-marks_array.ensures.cases.same)
    (stores_table _ _ _ (good_buffers _ _ c.in-Some.ensures.cases.long c.in-Some-as_mut_array.ensures.cases.long c.in-Some-as_mut_array-2.ensures.cases.long c.in-Some-marks_array.ensures.cases.long) c.if-n-ne-RECORDS.true)

pub returns : goal.returns
returns c =
    stores_done _ _ _ (good_buffers _ _ c.in-Some.ensures.cases.long c.in-Some-as_mut_array.ensures.cases.long c.in-Some-as_mut_array-2.ensures.cases.long c.in-Some-marks_array.ensures.cases.long) c.if-n-ne-RECORDS.false _ _ _ refl
    (rw (c.in-Some.ensures.cases.same, c.in-Some-as_mut_array.ensures.cases.same, c.in-Some-as_mut_array-2.ensures.cases.same, c.in-Some-marks_array.ensures.cases.same) at c.obey_bytes-outcome.ensures) c.with_records.ensures
