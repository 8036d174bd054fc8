-- A TABLE THAT IS COUNTED FROM THE BYTES: each call's figures by the slot bytes and the rule heads, on any memory. Where the memory is a board's they are the board's
-- (Laws.Counted).
use Rattle.std.specs.Prelude.{◌≡◌, Bool, ◌&&◌, cond, List, ℕ, ◌-◌, ◌/◌, ◌%◌, ◌<◌, length, get_or, eqb, ltb}
use Rattle.layout.specs.declared.value.Heads.{Heads}
use Rattle.layout.specs.declared.summary.Summary.{Summary}
use Rattle.layout.specs.Places.{call_of, cause_of, cancelled_byte}
use Rattle.layout.specs.Summary.{no_summary}
use Rattle.layout.specs.Sizes.{records_length}
use Rattle.model.specs.Tests.{count_below}
use Rattle.model.specs.Report.{open?}

-- the slots of a call that are open or struck, of so many that it has: none where its first slot's byte is a cancelled call's
abbrev pub slots_left : List ℕ → ℕ → ℕ → ℕ
slots_left slots c count = cond (eqb (cause_of slots c 0) cancelled_byte) 0 count

-- the figures of a call: how many slot bytes of a call with so many slots are 255, and how many slots that leaves
abbrev pub figures_of : List ℕ → ℕ → ℕ → ℕ → Summary
figures_of slots c count rules =
    let opened = count_below 32 (open? slots c) in
    record { «open» = opened; struck = slots_left slots c count - opened; rules = rules }

-- column k of rule p, whose arity is n, is on call c
abbrev pub column_on? : List ℕ → ℕ → ℕ → ℕ → ℕ → Bool
column_on? scope p n c k = ltb k n && eqb (call_of scope p k) c

-- how many of the first n columns of the heads, four to a rule, are on call c: a rule's calls differ, so that it has one of them at most
abbrev pub columns_on : Heads → ℕ → ℕ → ℕ
columns_on h n c = count_below n (λ i. column_on? h.scope (i / 4) (get_or h.arity (i / 4) 0) c (i % 4))

-- zeros where the call has no slots. On altered heads all 256 columns may be on one call, which a byte does not hold
abbrev pub counted_record : Heads → List ℕ → ℕ → Summary
counted_record h slots c = cond (eqb (get_or h.counts c 0) 0) no_summary (figures_of slots c (get_or h.counts c 0) (columns_on h 256 c % 256))

pub record Counted (h : Heads) (slots : List ℕ) (table : List Summary) : Type 0 where
  pub size : length table ≡ records_length
  pub each : (c : ℕ) → c < records_length → get_or table c no_summary ≡ counted_record h slots c
