-- DEMAND 3 (SCOPE 6.12 to 6.15), from what each step keeps. The state after a list is the ledger's, so its records are right, and the rest is theory. The table
-- after a list is current on the ledger's board (SCOPE 2.9).
-- Assumes nothing.
use Rattle.std.specs.Prelude.{◌≡◌, refl, List, ℕ, zero, suc, length, ltb, Err}
use Rattle.std.proofs.Common.{ap, ◌∙◌, arith}
use Rattle.model.specs.declared.answer.Report.{Report}
use Rattle.model.specs.declared.refusal.Refusal.{Refusal}
use Rattle.model.specs.Board.{Board}
use Rattle.model.specs.Records.{Recorded}
use Rattle.model.specs.Commands.{read_at}
use Rattle.model.specs.Ledger.{Ledger, LedgerShape, Member, fresh, lent_conditions, form_conditions, early_conditions, own_conditions, obey, step, step_by, ledger_after, run, lengths}
use Rattle.model.specs.Representation.{Represents}
use Rattle.model.specs.Marks.{RepresentsMarked}
use Rattle.model.specs.Summary.{Current}
use Rattle.model.specs.Promise.{Answer, Decided, Promise}
use Rattle.model.specs.Lists.{Runs, done, then, whole_lending, Entered, After, Demand3, Demand3Two}
use Rattle.model.proofs.Laws.Theory.{on_live, open_viable, struck_caused, row_records, no_ring, escape_from_all, plan_open, viable_mono}
use Rattle.model.proofs.Laws.Answers.{refused_by}
use Rattle.model.proofs.Laws.Members.{BadLengths, lengths_stand, member_keeps}
use Rattle.model.proofs.Laws.Refusals.{first_stands}
use Rattle.model.proofs.Laws.Shapes.{shape_step, shape_fresh}
use Rattle.model.proofs.Laws.Fresh.{fresh_marked_lem}
use Rattle.model.proofs.Laws.Summary.{fresh_current}
use Rattle.layout.specs.Places.{cause_of, killer_of}
use Rattle.layout.specs.Memory.{State, Whole, whole_of, lent_with, fresh_whole}
use Rattle.layout.specs.Sizes.{CommandLent, marks_length}
use Rattle.model.specs.Refusals.{first_of, number_of}

-- a state that is a ledger's has what demand 3 says of one list
pub state_demand : (L : Ledger) (s : State) → LedgerShape L → Represents L s → Demand3 L.board s
state_demand L s shape rep =
    record {
      ring = no_ring B cause killer known;
      escape = escape_from_all B cause killer known;
      plan = λ plan full c lc h. let lt = h.1 in omega (arith, (plan_open B cause killer known plan shape.board full c lc (on_live B c (plan c) h.0)).1);
      cause = struck_caused B cause killer known;
      killer = row_records B cause killer known;
      viable = open_viable B cause killer known;
    }
  where
    B : Board
    B = L.board

    cause : ℕ → ℕ → ℕ
    cause = cause_of s.slots

    killer : ℕ → ℕ → ℕ
    killer = killer_of s.killers

    known : Recorded B cause killer
    known = rep.stored.recorded

pub states_demand : (L L' : Ledger) (s s' : State) → LedgerShape L → Represents L s → LedgerShape L' → Represents L' s' → Demand3Two L.board s L'.board s'
states_demand L L' s s' shape rep shape' rep' more c t l l' o =
    ((state_demand L s shape rep).viable c t).1 (viable_mono L.board L'.board more c t l (((state_demand L' s' shape' rep').viable c t).0 o))

-- OVER ANY LISTS: states S of which `memory` shows the value and the buffers, members M, accounts K of which `ledger` shows the ledger, the effect of a member on an
-- account, and any step that keeps the state an account's
module _ (S M K : Type 0) (memory : S → State) (ledger : K → Ledger) (next : K → M → K) (Step : M → S → S → Type 0) (Is : K → S → Type 0)
    (means : (k : K) (s : S) → Is k s → LedgerShape (ledger k) × Represents (ledger k) (memory s))
    (keeps : (k : K) (m : M) (s s' : S) → Is k s → Step m s s' → Is (next k m) s') where
  pub runs_keep : (k : K) {s s' : S} {ms : List M} → Is k s → Runs S M Step s ms s' → Is (ledger_after next k ms) s'
  runs_keep k is done = is
  runs_keep k {s} is (then {s' = t} {m = m} st rest) = runs_keep (next k m) (keeps k m s t is st) rest

  -- from a start that is an account's
  pub every_run : (k : K) (start : S) → Is k start → (ms : List M) (s : S) → Runs S M Step start ms s → Demand3 (ledger (ledger_after next k ms)).board (memory s)
  every_run k start starts ms s ran =
      let h = means (ledger_after next k ms) s (runs_keep k starts ran) in
      state_demand (ledger (ledger_after next k ms)) (memory s) h.0 h.1

  pub every_two_runs : (k : K) (start start' : S) → Is k start → Is k start' → (ms ms' : List M) (s s' : S) → Runs S M Step start ms s → Runs S M Step start' ms' s'
      → Demand3Two (ledger (ledger_after next k ms)).board (memory s) (ledger (ledger_after next k ms')).board (memory s')
  every_two_runs k start start' starts starts' ms ms' s s' ran ran' =
      let h = means (ledger_after next k ms) s (runs_keep k starts ran) in
      let h' = means (ledger_after next k ms') s' (runs_keep k starts' ran') in
      states_demand (ledger (ledger_after next k ms)) (ledger (ledger_after next k ms')) (memory s) (memory s') h.0 h.1 h'.0 h'.1

-- AT RAW BYTES. A whole is a ledger's: the value, the buffers and the marks represent it, and the table is current on its board
abbrev pub IsOf : Ledger → Whole → Type 0
IsOf L w = LedgerShape L × RepresentsMarked L w.marked × Current L.board w.table

-- its lengths are right
pub is_lengths : (L : Ledger) (w : Whole) → IsOf L w → lent_with w ≡ lengths
is_lengths L w is =
    let r = is.1.state.stored.row_bytes_lem.rows_size in
    let k = is.1.state.stored.killers_size in
    let b = is.1.state.stored.slots_size in
    let m = is.1.marks_size in
    let n = is.2.size in
    cc

-- WHAT A DECISION LEAVES of such a whole is the next ledger's: accepted, the table is current on its board; refused, table and ledger are as they were
pub decided_keeps : (L L' : Ledger) (s s' : Whole) {n : ℕ} {Reported : Report → Type 0} {given : Answer} → IsOf L s → LedgerShape L'
    → Decided n Reported (RepresentsMarked L' s'.marked) given → ((m : ℕ) → n ≡ suc m → L' ≡ L) → ((e : Refusal) → given ≡ Err e → s'.table ≡ s.table)
    → (number_of given ≡ 0 → (K : Ledger) → LedgerShape K → Represents K s'.marked.state → Current K.board s'.table) → IsOf L' s'
decided_keeps L L' s s' {n} {Reported} {given} is shape decided alone kept current = (shape, decided.represents, go n refl)
  where
    go : (m : ℕ) → n ≡ m → Current L'.board s'.table
    go zero e = current (decided.number ∙ e) L' shape decided.represents.state
    go (suc m) e = let r = refused_by given m (decided.number ∙ e) in rw (alone m e, kept r.0 r.1) is.2

-- so what the command's promise leaves is the stepped ledger's
pub promise_keeps : (L : Ledger) (s s' : Whole) (bytes : List ℕ) (given : Answer) → IsOf L s → Promise s bytes given s' → IsOf (step L (lent_with s) bytes) s'
promise_keeps L s s' bytes given is promise =
    decided_keeps L (step L (lent_with s) bytes) s s' is (shape_step L (lent_with s) bytes is.0) (promise.memory.answered L is.0 is.1)
    (λ m e. ap (λ (k : ℕ). obey k L (read_at bytes 0).read (read_at bytes 0).counts) e) promise.table_kept promise.current

-- two wholes with the same parts are one
pub whole_same : (s s' : Whole) → s'.marked ≡ s.marked → s'.table ≡ s.table → s' ≡ s
whole_same s s' m t = let e : ◌≡◌ {A = Whole} (whole_of s'.marked s'.table) (whole_of s.marked s.table) = cc in e

-- A COMMAND, by its bytes. Wrong lengths are refused before anything else is looked at,
module _ (bytes : List ℕ) where
  pub lengths_first : (lent : CommandLent) (bad : BadLengths lent) → first_of (early_conditions lent bytes) ≡ suc bad.0
  lengths_first lent bad =
      first_stands (lent_conditions lent) (form_conditions (read_at bytes 0).read (ltb (read_at bytes 0).next (length bytes))) bad.0 bad.1

  -- so the promise says refused, 1 or 22, and that a refusal changes nothing;
  promise_stays : (s s' : Whole) (given : Answer) → Promise s bytes given s' → BadLengths (lent_with s) → s' ≡ s
  promise_stays s s' given promise bad =
      let r = refused_by given bad.0 (promise.memory.early bad.0 (lengths_first (lent_with s) bad)) in
      whole_same s s' (promise.memory.refused r.0 r.1) (promise.table_kept r.0 r.1)

  -- and the ledger stays as it is
  step_stays : (L : Ledger) (lent : CommandLent) → BadLengths lent → step L lent bytes ≡ L
  step_stays L lent bad =
      ap (λ (k : ℕ). obey k L (read_at bytes 0).read (read_at bytes 0).counts)
      (first_stands (early_conditions lent bytes) (own_conditions L (read_at bytes 0).read (read_at bytes 0).counts) bad.0 (lengths_first lent bad))

-- A COMMAND HANDED A BUFFER OR A TABLE OF ANOTHER LENGTH leaves everything as it was
pub bad_lengths_stand : (m : Member) (s s' : Whole) → Entered m s s' → BadLengths m.lent → s' ≡ s
bad_lengths_stand m s s' t bad =
    lengths_stand whole_lending (λ s given s'. Promise s m.bytes given s') (promise_stays m.bytes) t bad

-- EVERY COMMAND keeps the whole the ledger's
pub entered_keeps : (L : Ledger) (m : Member) (s s' : Whole) → IsOf L s → Entered m s s' → IsOf (step L m.lent m.bytes) s'
entered_keeps L m s s' is t =
    member_keeps whole_lending (λ s given s'. Promise s m.bytes given s') (promise_stays m.bytes) IsOf is_lengths (λ L lent. step L lent m.bytes) (step_stays m.bytes)
    (λ L s s' given is promise. promise_keeps L s s' m.bytes given is promise) L m.lent s s' is t

-- THE FRESH WHOLE is the fresh ledger's
pub fresh_whole_is : (marks : List ℕ) → length marks ≡ marks_length → IsOf fresh (fresh_whole marks)
fresh_whole_is marks size = (shape_fresh, fresh_marked_lem marks size, fresh_current)

-- what a ledger's whole shows
pub shown : (L : Ledger) (s : Whole) → IsOf L s → LedgerShape L × Represents L s.marked.state
shown L s is = (is.0, is.1.state)

-- DEMAND 3 FOR EVERY LIST OF RAW COMMANDS, with any lengths and refused ones among them, and for every two
pub demand_3 : {first : List ℕ} (ms : List Member) (s : Whole) → After first ms s → Demand3 (run fresh ms).board s.marked.state
demand_3 {first} ms s after =
    every_run Whole Member Ledger (λ s. s.marked.state) (λ L. L) step_by Entered IsOf shown entered_keeps fresh (fresh_whole first) (fresh_whole_is first after.size) ms s after.ran

pub demand_3_two : {first first' : List ℕ} (ms ms' : List Member) (s s' : Whole) → After first ms s → After first' ms' s'
    → Demand3Two (run fresh ms).board s.marked.state (run fresh ms').board s'.marked.state
demand_3_two {first} {first'} ms ms' s s' after after' =
    every_two_runs Whole Member Ledger (λ s. s.marked.state) (λ L. L) step_by Entered IsOf shown entered_keeps fresh (fresh_whole first) (fresh_whole first')
    (fresh_whole_is first after.size) (fresh_whole_is first' after'.size) ms ms' s s' after.ran after'.ran

-- and what stands after a list is the ledger's, the shape, the marks and the table with it
pub runs_represent : {first : List ℕ} (ms : List Member) (s : Whole) → After first ms s → IsOf (run fresh ms) s
runs_represent {first} ms s after =
    runs_keep Whole Member Ledger (λ s. s.marked.state) (λ L. L) step_by Entered IsOf shown entered_keeps fresh (fresh_whole_is first after.size) after.ran

pub table_current : {first : List ℕ} (ms : List Member) (s : Whole) → After first ms s → Current (run fresh ms).board s.table
table_current ms s after = (runs_represent ms s after).2
