-- THE RECORDS THAT ARE TO BE STORED into the lent table, as the functions under the entries hand them on: none or all of 32.
use Rattle.std.specs.Prelude.{◌≡◌, List, ℕ, length, Option, Some, None, Ok, Err}
use Rattle.model.specs.declared.answer.Outcome.{Outcome}
use Rattle.summary_counts.specs.Counted.{Counted}
use Rattle.layout.specs.declared.summary.Summary.{Summary}
use Rattle.layout.specs.declared.summary.Table.{Table}
use Rattle.layout.specs.Sizes.{records_length}
use Rattle.command_run.specs.declared.Done.{Done}
use Rattle.model.specs.Promise.{Answer}

-- a table of n has room for the records, where there are any; and the table with them
abbrev pub Storable : Option Table → ℕ → Type 0
Storable None n = Unit {0}
Storable (Some table) n = n ≡ records_length

abbrev pub stored : Option Table → List Summary → List Summary
stored None old = old
stored (Some table) old = table.records

-- THESE RECORDS ARE TO BE STORED, or none, into a table of n: then what is promised of a table before and after is kept, whatever the table holds
pub record Stores (Promised : List Summary → List Summary → Type 0) (n : ℕ) (table : Option Table) : Type 0 where
  pub room : Storable table n
  pub all : (old : List Summary) → length old ≡ n → Promised old (stored table old)

-- nothing is to be stored
abbrev pub none_to_store : Outcome → Done
none_to_store outcome = record { outcome = outcome; table = None }

-- the records that its heads and the slot bytes give where a command was accepted, and none where it was refused
abbrev pub RecordsFor : Outcome → Answer → List ℕ → Option Table → Type 0
RecordsFor outcome (Ok r) slots (Some table) = Counted outcome.value.heads slots table.records
RecordsFor outcome (Ok r) slots None = ⊥
RecordsFor outcome (Err e) slots (Some table) = ⊥
RecordsFor outcome (Err e) slots None = Unit {0}

-- an outcome with its records
pub record WithRecords (outcome : Outcome) (slots : List ℕ) (done : Done) : Type 0 where
  pub outcome_same : done.outcome ≡ outcome
  pub counted : RecordsFor outcome outcome.answer slots done.table
