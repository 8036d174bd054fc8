-- THE RECORDS THAT A COMMAND LEAVES keep the entry's promise of every table: none where it is refused, and where it is accepted those that were counted. Assumes nothing.
use Rattle.std.specs.Prelude.{◌≡◌, refl, true, false, List, ◌≢◌, ℕ, length, Option, Some, None, Ok, Err}
use Rattle.std.proofs.Common.{sym, subst, ◌∙◌, arith, ne_eqb}
use Rattle.model.specs.declared.refusal.Refusal.{Refusal}
use Rattle.model.specs.declared.answer.Outcome.{Outcome}
use Rattle.model.specs.Ledger.{Ledger, LedgerShape, lengths}
use Rattle.model.specs.Promise.{Answer, MemoryPromise, Promise}
use Rattle.model.specs.Refusals.{number_of}
use Rattle.model.proofs.Laws.Refusals.{number_not_zero}
use Rattle.model.specs.Representation.{Represents}
use Rattle.model.specs.Summary.{Current}
use Rattle.model.proofs.Laws.Entry.{refused_lengths, refused_table, refused_whole}
use Rattle.model.proofs.Laws.Shapes.{lent_sizes, marks_size}
use Rattle.model.specs.declared.refusal.Refusal.TheVariants as refused
use Rattle.layout.specs.declared.summary.Summary.{Summary}
use Rattle.layout.specs.declared.summary.Table.{Table}
use Rattle.layout.specs.Memory.{MarkedState, state_of, marked_of, whole_of, lent_of, lent_with}
use Rattle.layout.specs.Sizes.{Lent, CommandLent, bad_buffers?, bad_table?, rows_length, killers_length, slots_length, marks_length, records_length}
use Rattle.summary_counts.specs.Laws.Counted.{counted_current}
use Rattle.command_run.specs.declared.Done.{Done}
use Rattle.command_run.specs.Store.{Stores, RecordsFor, WithRecords}

-- THE ENTRY'S PROMISE with the right lengths lent: the table is kept by a refusal, and is current on what an accepted command leaves
pub promise_whole : (s s' : MarkedState) (bytes : List ℕ) (given : Answer) (old new : List Summary) → lent_with (whole_of s old) ≡ lengths → MemoryPromise lengths s bytes given s'
    → ((e : Refusal) → given ≡ Err e → new ≡ old)
    → (number_of given ≡ 0 → (L : Ledger) → LedgerShape L → Represents L s'.state → Current L.board new)
    → Promise (whole_of s old) bytes given (whole_of s' new)
promise_whole s s' bytes given old new lent promise kept current =
    record { memory = subst (λ (l : CommandLent). MemoryPromise l s bytes given s') (sym lent) promise; table_kept = kept; current = current }

-- A BUFFER IS NOT OF ITS LENGTH, or all are
module _ (lent : Lent) (marks : ℕ) where
  pub bad_rows : lent.rows ≢ rows_length → bad_buffers? lent marks ≡ true
  bad_rows r = rw (ne_eqb lent.rows rows_length r) refl

  module _ (r : lent.rows ≡ rows_length) where
    pub bad_killers : lent.killers ≢ killers_length → bad_buffers? lent marks ≡ true
    bad_killers k = rw (r, ne_eqb lent.killers killers_length k) refl

    module _ (k : lent.killers ≡ killers_length) where
      pub bad_slots : lent.slots ≢ slots_length → bad_buffers? lent marks ≡ true
      bad_slots s = rw (r, k, ne_eqb lent.slots slots_length s) refl

      module _ (s : lent.slots ≡ slots_length) where
        pub bad_marks : marks ≢ marks_length → bad_buffers? lent marks ≡ true
        bad_marks m = rw (r, k, s, ne_eqb marks marks_length m) refl

        pub good_buffers : marks ≡ marks_length → bad_buffers? lent marks ≡ false
        good_buffers m = rw (r, k, s, m) refl

-- A COMMAND, on the state s with a table of n records
module _ (s : MarkedState) (bytes : List ℕ) (n : ℕ) where
  abbrev Kept : Answer → MarkedState → List Summary → List Summary → Type 0
  Kept given after old new = Promise (whole_of s old) bytes given (whole_of after new)

  -- refused for a buffer, or for the table
  pub stores_lengths : bad_buffers? (lent_of s.state) (length s.marks) ≡ true → Stores (Kept (Err refused.BufferLength) s) n None
  stores_lengths bad =
      record { room = tt; all = λ old e. refused_whole (whole_of s old) bytes refused.BufferLength (refused_lengths (lent_with (whole_of s old)) s bytes bad) }

  module _ (good : bad_buffers? (lent_of s.state) (length s.marks) ≡ false) where
    pub stores_table : n ≢ records_length → Stores (Kept (Err refused.TableLength) s) n None
    stores_table other =
        record {
          room = tt;
          all = λ old e. refused_whole (whole_of s old) bytes refused.TableLength (refused_table (lent_with (whole_of s old)) s bytes good (another old e));
        }
      where
        another : (old : List Summary) → length old ≡ n → bad_table? (lent_with (whole_of s old)) ≡ true
        another old e = rw (e, ne_eqb n records_length other) refl

    -- obeyed: the records are those of the heads and slot bytes that are left
    module _ (right : n ≡ records_length) (after : MarkedState) where
      own_lengths : (old : List Summary) → length old ≡ records_length → lent_with (whole_of s old) ≡ lengths
      own_lengths old e =
          let apart = marks_size (lent_of s.state) (length s.marks) good in
          let m = apart.1 in
          let z = lent_sizes (lent_of s.state) apart.0 in
          let r = z.0 in
          let k = z.1 in
          let b = z.2 in
          cc

      stores_given : (outcome : Outcome) (given : Answer) (table : Option Table) → after.state.value ≡ outcome.value → MemoryPromise lengths s bytes given after
          → RecordsFor outcome given after.state.slots table → Stores (Kept given after) n table
      stores_given outcome (Ok r) (Some table) value promise c =
          record {
            room = right;
            all = λ old e.
                promise_whole s after bytes (Ok r) old table.records (own_lengths old (e ∙ right)) promise (λ f d. let z : ◌≡◌ {A = ℕ} 0 1 = cc in absurd (omega arith))
                (λ z L shape rep. counted_current L after.state shape rep table.records (rw value c));
          }
      stores_given outcome (Ok r) None value promise c = absurd c
      stores_given outcome (Err f) (Some table) value promise c = absurd c
      stores_given outcome (Err f) None value promise c =
          record {
            room = tt;
            all = λ old e. promise_whole s after bytes (Err f) old old (own_lengths old (e ∙ right)) promise (λ g d. refl) (λ z. absurd (number_not_zero f z));
          }

      pub stores_done : (outcome : Outcome) (done : Done) → after.state.value ≡ outcome.value → MemoryPromise lengths s bytes outcome.answer after
          → WithRecords outcome after.state.slots done
          → Stores (Kept done.outcome.answer (marked_of (state_of done.outcome.value after.state.rows after.state.killers after.state.slots) after.names after.marks))
          n done.table
      stores_done outcome done value promise w =
          rw (w.outcome_same, ← value) (stores_given outcome outcome.answer done.table value promise w.counted)
