-- THE RECORDS AS THE LOOP MAKES THEM, one call with each round: once all are made the table is counted. Assumes nothing.
use Rattle.std.specs.Prelude.{◌≡◌, cond, List, ℕ, ◌+◌, ◌%◌, ◌<◌, ◌≤◌, length, get_or, set, eqb}
use Rattle.std.proofs.Common.{ap, ◌∙◌, ⊎_elim, arith, length-set, get_or-set_same, get_or-set_other}
use Rattle.std.proofs.lemmas.List.{length-replicate}
use Rattle.layout.specs.declared.summary.Summary.{Summary}
use Rattle.layout.specs.declared.value.Heads.{Heads}
use Rattle.layout.specs.Sizes.{records_length}
use Rattle.layout.specs.Summary.{no_summary, no_records}
use Rattle.tables.specs.Laws.Facts.{eq_or_ne}
use Rattle.summary_counts.specs.Counted.{figures_of, Counted}
use Rattle.summary_counts.specs.Rules.{Columns}

-- the record of call c, by the slot counts of the calls and the columns on each
abbrev pub record_by : List ℕ → List ℕ → List ℕ → ℕ → Summary
record_by slots counts on c = cond (eqb (get_or counts c 0) 0) no_summary (figures_of slots c (get_or counts c 0) (get_or on c 0 % 256))

-- the first n records are those of their calls
pub record RecordsTo (slots counts on : List ℕ) (n : ℕ) (table : List Summary) : Type 0 where
  pub size : length table ≡ records_length
  pub each : (c : ℕ) → c < n → get_or table c no_summary ≡ record_by slots counts on c

pub records_none : (slots counts on : List ℕ) → RecordsTo slots counts on 0 no_records
records_none slots counts on = record { size = length-replicate records_length no_summary; each = λ c h. absurd (omega arith) }

pub records_more : {slots counts on : List ℕ} {n : ℕ} {table : List Summary} {r : Summary}
    → n < records_length → RecordsTo slots counts on n table → r ≡ record_by slots counts on n → RecordsTo slots counts on (n + 1) (set table n r)
records_more {slots} {counts} {on} {n} {table} {r} ln x is =
    record {
      size = length-set table n r ∙ x.size;
      each = λ c lc.
          ⊎_elim
          (λ (e : c ≡ n). rw e (get_or-set_same table n r no_summary (omega (arith, x.size)) ∙ is))
          (λ other. get_or-set_other table n c r no_summary other ∙ x.each c (omega arith))
          (eq_or_ne c n);
    }

pub records_counted : {heads : Heads} {slots on : List ℕ} {n : ℕ} {table : List Summary}
    → Columns heads on → records_length ≤ n → RecordsTo slots heads.counts on n table → Counted heads slots table
records_counted {heads} {slots} columns g x =
    record {
      size = x.size;
      each = λ c lc.
          x.each c (omega arith)
          ∙ ap (λ (m : ℕ). cond (eqb (get_or heads.counts c 0) 0) no_summary (figures_of slots c (get_or heads.counts c 0) (m % 256))) (columns.each c lc);
    }
