-- THE SUMMARY TABLE (SCOPE 2.9): a record for each of 32 calls, lent beside the buffers.
use Rattle.std.specs.Prelude.{List, ◌++◌, ℕ, replicate, take, drop}
use Rattle.layout.specs.declared.summary.Summary.{Summary}
use Rattle.layout.specs.declared.summary.Table.{Table}
use Rattle.layout.specs.Sizes.{records_length}

-- the record of a call that is not there, and the table of a board without calls
abbrev pub no_summary : Summary
no_summary = record { «open» = 0; struck = 0; rules = 0 }

abbrev pub no_records : List Summary
no_records = replicate records_length no_summary

abbrev pub no_table : Table
no_table = record { records = no_records }

-- a table whose first n records are replaced by those of another
abbrev pub replaced : ℕ → List Summary → List Summary → List Summary
replaced n records old = take n records ++ drop n old
