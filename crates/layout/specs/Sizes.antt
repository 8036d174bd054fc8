-- THE LENGTHS of what the host lends: three buffers of bytes to every entry, and to a command the marks' buffer and a summary table beside them.
use Rattle.std.specs.Prelude.{Bool, not, ◌&&◌, ◌||◌, ℕ, eqb}

-- four bytes for each of 64 rows of each of 64 rules; a byte for each of those rows; a byte for each of 32 slots of each of 32 calls
abbrev pub rows_length : ℕ
rows_length = 16384

abbrev pub killers_length : ℕ
killers_length = 4096

abbrev pub slots_length : ℕ
slots_length = 1024

-- as much as those three for each of two marks
abbrev pub mark_length : ℕ
mark_length = 21504

abbrev pub marks_length : ℕ
marks_length = 43008

-- a record for each of 32 calls
abbrev pub records_length : ℕ
records_length = 32

-- the lengths of the buffers
pub record Lent : Type 0 where
  pub rows : ℕ
  pub killers : ℕ
  pub slots : ℕ

-- 1: one of the three is not as long as SCOPE 2.1 to 2.3 say
abbrev pub bad_lent? : Lent → Bool
bad_lent? lent = not (eqb lent.rows rows_length && eqb lent.killers killers_length && eqb lent.slots slots_length)

-- the lengths of all that is lent with a command: the buffers, the marks, and the table in records
pub record CommandLent : Type 0 where
  pub buffers : Lent
  pub marks : ℕ
  pub table : ℕ

-- 1 of a command: one of the three is not, or the marks are not as long as SCOPE 2.10 says
abbrev pub bad_buffers? : Lent → ℕ → Bool
bad_buffers? lent marks = bad_lent? lent || not (eqb marks marks_length)

-- 22: the table is not as long as SCOPE 2.9 says
abbrev pub bad_table? : CommandLent → Bool
bad_table? lent = not (eqb lent.table records_length)
