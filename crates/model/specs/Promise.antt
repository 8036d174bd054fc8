-- WHAT THE COMMAND ENTRY PROMISES (SCOPE 6.10, 10.1), over the state, the marks and the table before, the command's bytes, the answer, and the three after. The lengths
-- lent are those before. The entry's `ensures` cites the last record, and nothing else.
use Rattle.std.specs.Prelude.{◌≡◌, List, [], ◌∷◌, ℕ, zero, suc, Result, Ok, Err}
use Rattle.layout.specs.declared.value.Value.{Value}
use Rattle.model.specs.declared.answer.Report.{Report}
use Rattle.model.specs.declared.refusal.Refusal.{Refusal}
use Rattle.model.specs.declared.answer.Outcome.{Outcome}
use Rattle.model.specs.declared.command.Command.{Command}
use Rattle.model.specs.declared.command.Command.TheVariants as kind
use Rattle.model.specs.declared.command.Read.{Read}
use Rattle.model.specs.declared.command.Read.TheVariants as found
use Rattle.model.specs.Board.{Board}
use Rattle.model.specs.Commands.{read_at}
use Rattle.model.specs.Ledger.{Ledger, LedgerShape, fresh, early_conditions, kind_conditions, refusal, effect, obey, step}
use Rattle.model.specs.Report.{Reports}
use Rattle.model.specs.Representation.{Represents}
use Rattle.model.specs.Marks.{RepresentsMarked, LeavesMarks, LeavesMarksOf}
use Rattle.model.specs.Summary.{Current}
use Rattle.layout.specs.Memory.{State, MarkedState, Whole, lent_with}
use Rattle.layout.specs.Sizes.{CommandLent}
use Rattle.model.specs.Refusals.{number, first_of, number_of}

-- THE ANSWER TO A COMMAND
abbrev pub Answer : Type 0
Answer = Result Report Refusal

-- its values (SCOPE 10.5): S, R, T of an accepted command, and none of a refusal (4.2)
abbrev pub report_values : Report → List ℕ
report_values r = r.struck ∷ r.reopened ∷ r.touched ∷ []

abbrev pub values_of : Answer → List ℕ
values_of (Ok r) = report_values r
values_of (Err e) = []

-- no refusal has the number 0 (SCOPE 4.1)
abbrev pub NeverZero : Answer → Type 0
NeverZero given = (e : Refusal) → given ≡ Err e → number e ≡ 0 → ⊥

-- values go with the number 0 alone
abbrev pub values_at : ℕ → List ℕ → List ℕ
values_at zero values = values
values_at (suc n) values = []

-- the two outcomes of a command: refused, with the value as it was; accepted, with S, R and T to report, and the value that is left
abbrev pub refused_with : Refusal → Value → Outcome
refused_with e value = record { answer = Err e; value = value }

abbrev pub accepted_with : ℕ → ℕ → ℕ → Value → Outcome
accepted_with struck reopened touched value = record { answer = Ok (record { struck = struck; reopened = reopened; touched = touched }); value = value }

-- the report of what was read, on the board B: of a command by its kind
abbrev pub ReportsOf : Board → Read → State → State → Report → Type 0
ReportsOf B (found.Command c) before after r = Reports B c before after r
ReportsOf B (found.Refused k e) before after r = ⊥
ReportsOf B found.End before after r = ⊥

-- A DECISION, by the number of the first condition that holds, or 0: the answer's number and values, the report where it is 0, and what is said of the memory after
pub record Decided (n : ℕ) (Reported : Report → Type 0) (Left : Type 0) (given : Answer) : Type 0 where
  pub report : Report
  pub number : number_of given ≡ n
  pub values : values_of given ≡ values_at n (report_values report)
  pub reported : n ≡ 0 → Reported report
  pub represents : Left

-- on a state with marks that is the ledger L's: the first condition of the whole table decides, and what is left is the stepped ledger's
abbrev pub Answered : CommandLent → Ledger → MarkedState → List ℕ → Answer → MarkedState → Type 0
Answered lent L before bytes given after =
    Decided (refusal L lent bytes) (ReportsOf L.board (read_at bytes 0).read before.state after.state) (RepresentsMarked (step L lent bytes) after) given

-- the same of a command that has been read, with the kind's own conditions: what the functions under the entry promise
abbrev pub ObeyedMarked : Ledger → MarkedState → Command → List ℕ → Answer → MarkedState → Type 0
ObeyedMarked L before c ns given after =
    let n = first_of (kind_conditions L c ns) in
    Decided n (Reports L.board c before.state after.state) (RepresentsMarked (obey n L (found.Command c) ns) after) given

pub record MarkedPromise (before : MarkedState) (c : Command) (ns : List ℕ) (given : Answer) (after : MarkedState) : Type 0 where
  pub refused : (e : Refusal) → given ≡ Err e → after ≡ before
  pub never_zero : NeverZero given
  pub marks : number_of given ≡ 0 → LeavesMarks c before after
  pub obeyed : (L : Ledger) → LedgerShape L → RepresentsMarked L before → ObeyedMarked L before c ns given after

-- and of the state alone: what the functions of the kinds promise that the marks have no part in
abbrev pub Obeyed : Ledger → State → Command → List ℕ → Answer → State → Type 0
Obeyed L before c ns given after =
    let n = first_of (kind_conditions L c ns) in
    Decided n (Reports L.board c before after) (Represents (obey n L (found.Command c) ns) after) given

pub record KindPromise (before : State) (c : Command) (ns : List ℕ) (given : Answer) (after : State) : Type 0 where
  pub refused : (e : Refusal) → given ≡ Err e → after ≡ before
  pub never_zero : NeverZero given
  pub obeyed : (L : Ledger) → LedgerShape L → Represents L before → Obeyed L before c ns given after

-- a kind 1 whose form is right, whatever the memory held: decided by its counts alone, and a board of these counts is made new
pub record BoardMade (ns : List ℕ) (given : Answer) (after : State) : Type 0 where
  pub number : number_of given ≡ first_of (kind_conditions fresh kind.Board ns)
  pub values : values_of given ≡ values_at (first_of (kind_conditions fresh kind.Board ns)) (0 ∷ 0 ∷ 0 ∷ [])
  pub represents : first_of (kind_conditions fresh kind.Board ns) ≡ 0 → Represents (effect fresh kind.Board ns) after

-- OF VALUE, BUFFERS AND MARKS, with all lengths that are lent
pub record MemoryPromise (lent : CommandLent) (before : MarkedState) (bytes : List ℕ) (given : Answer) (after : MarkedState) : Type 0 where
  -- WHATEVER THE MEMORY HOLDS (SCOPE 2.7): 1, 22, 3 and 4 are given on their conditions
  pub early : (n : ℕ) → first_of (early_conditions lent bytes) ≡ suc n → number_of given ≡ suc n
  -- a refusal leaves value, buffers and marks as they were (SCOPE 4.2), and has a number
  pub refused : (e : Refusal) → given ≡ Err e → after ≡ before
  pub never_zero : NeverZero given
  -- a kind 1 does the same on every memory
  pub made : first_of (early_conditions lent bytes) ≡ 0 → (read_at bytes 0).read ≡ found.Command kind.Board
      → BoardMade (read_at bytes 0).counts given after.state
  -- and every kind leaves of the marks what it has to; so kinds 7 and 8 do the same on every memory (SCOPE 3.14, 3.15)
  pub marks : number_of given ≡ 0 → LeavesMarksOf (read_at bytes 0).read before after
  -- WHERE THE STATE WITH ITS MARKS IS A LEDGER'S
  pub answered : (L : Ledger) → LedgerShape L → RepresentsMarked L before → Answered lent L before bytes given after

-- THE ENTRY'S: of value, buffers, marks and table
pub record Promise (before : Whole) (bytes : List ℕ) (given : Answer) (after : Whole) : Type 0 where
  pub memory : MemoryPromise (lent_with before) before.marked bytes given after.marked
  -- refused, the table is as it was (SCOPE 4.2)
  pub table_kept : (e : Refusal) → given ≡ Err e → after.table ≡ before.table
  -- accepted, it is current, whatever it held (SCOPE 2.9): on the board of every ledger that the state after is of
  pub current : number_of given ≡ 0 → (L : Ledger) → LedgerShape L → Represents L after.marked.state → Current L.board after.table
