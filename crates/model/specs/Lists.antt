-- WHOLE LISTS AND DEMAND 3 (SCOPE 6).
use Rattle.std.specs.Prelude.{◌≡◌, refl, cond, List, [], ◌∷◌, ◌↔◌, ◌⊎◌, ℕ, ◌<◌, length, eqb}
use Rattle.model.specs.Board.{Rule, Board, InForce, Live, Viable, Alive, Dead, FullPlan, AtLeast}
use Rattle.model.specs.Records.{Open, Struck, Caused, KillerIn, NoRing, EscapeFromAll}
use Rattle.model.specs.Ledger.{Member}
use Rattle.model.specs.Promise.{Answer, Promise}
use Rattle.layout.specs.declared.value.Value.{Value}
use Rattle.layout.specs.declared.summary.Summary.{Summary}
use Rattle.layout.specs.Places.{cause_of, killer_of}
use Rattle.layout.specs.Memory.{State, Whole, state_of, marked_of, whole_of, fresh_whole}
use Rattle.layout.specs.Sizes.{CommandLent, marks_length}

-- A LIST OF MEMBERS TAKES ONE STATE TO ANOTHER, step by step, over any states, members and steps
pub data Runs (S M : Type 0) (Step : M → S → S → Type 0) : S → List M → S → Type 0 where
  done : {s : S} → Runs S M Step s [] s
  then : {s s' s'' : S} {m : M} {ms : List M} → Step m s s' → Runs S M Step s' ms s'' → Runs S M Step s (m ∷ ms) s''

-- WHAT IS LENT WITH A LENGTH, and so may be handed with a wrong one: the three buffers, the marks' buffer and the table; and their lengths
pub record Buffers : Type 0 where
  pub rows : List ℕ
  pub killers : List ℕ
  pub slots : List ℕ
  pub marks : List ℕ
  pub table : List Summary

abbrev pub lengths_of : Buffers → CommandLent
lengths_of b =
    record {
      buffers = record { rows = length b.rows; killers = length b.killers; slots = length b.slots };
      marks = length b.marks;
      table = length b.table;
    }

-- HOW A MEMORY OF TYPE S IS LENT: what has a fixed size, of type F, and the rest with its lengths; together they are the memory
pub record Lending (S F : Type 0) : Type 0 where
  pub fixed : S → F
  pub buffers : S → Buffers
  pub together : F → Buffers → S
  pub whole : (s : S) → together (fixed s) (buffers s) ≡ s

-- of the whole that commands write, the value and the names have a fixed size
abbrev pub whole_lending : Lending Whole (Value × List ℕ)
whole_lending =
    record {
      fixed = λ w. (w.marked.state.value, w.marked.names);
      buffers = λ w.
          record { rows = w.marked.state.rows; killers = w.marked.state.killers; slots = w.marked.state.slots; marks = w.marked.marks; table = w.table };
      together = λ f b. whole_of (marked_of (state_of f.0 b.rows b.killers b.slots) f.1 b.marks) b.table;
      whole = λ w. refl;
    }

-- what is handed of a buffer or a table: the one that stands, if its length is right; one of another length may hold anything
abbrev pub Handed : {A : Type 0} → List A → List A → Type 0
Handed own handed = length handed ≡ length own → handed ≡ own

-- what stands after a member that was handed a buffer or a table and left it so: one of another length was not the one that stands (SCOPE 6.3)
abbrev pub standing : {A : Type 0} → List A → List A → List A → List A
standing own handed left = cond (eqb (length handed) (length own)) left own

abbrev pub standing_buffers : Buffers → Buffers → Buffers → Buffers
standing_buffers own handed left =
    record {
      rows = standing own.rows handed.rows left.rows;
      killers = standing own.killers handed.killers left.killers;
      slots = standing own.slots handed.slots left.slots;
      marks = standing own.marks handed.marks left.marks;
      table = standing own.table handed.table left.table;
    }

-- ONE MEMBER OF A LIST IS ENTERED (SCOPE 6.2, 6.3), by any promise between what it is handed, what it answers and what it leaves. It is handed what has a fixed size as
-- it stands, and each buffer and the table too if its length is right; it says which lengths are lent. What it leaves of a fixed size stands
pub record EnteredBy {S F A : Type 0} (P : Lending S F) (Promised : S → A → S → Type 0) (lent : CommandLent) (s s' : S) : Type 0 where
  pub handed : S
  pub left : S
  pub given : A
  pub fixed : P.fixed handed ≡ P.fixed s
  pub lengths : lengths_of (P.buffers handed) ≡ lent
  pub rows : Handed (P.buffers s).rows (P.buffers handed).rows
  pub killers : Handed (P.buffers s).killers (P.buffers handed).killers
  pub slots : Handed (P.buffers s).slots (P.buffers handed).slots
  pub marks : Handed (P.buffers s).marks (P.buffers handed).marks
  pub table : Handed (P.buffers s).table (P.buffers handed).table
  pub promise : Promised handed given left
  pub stands : s' ≡ P.together (P.fixed left) (standing_buffers (P.buffers s) (P.buffers handed) (P.buffers left))

-- ONE COMMAND OF A LIST IS ENTERED, by the command entry's promise: it is handed the value and the names as they stand
abbrev pub Entered : Member → Whole → Whole → Type 0
Entered m s s' = EnteredBy {A = Answer} whole_lending (λ before given after. Promise before m.bytes given after) m.lent s s'

-- WHAT STANDS AFTER THE COMMANDS OF A LIST, entered one after another on a fresh board (SCOPE 6.1), beside marks' bytes that held anything at first (2.10)
pub record After (first : List ℕ) (ms : List Member) (s : Whole) : Type 0 where
  pub size : length first ≡ marks_length
  pub ran : Runs Whole Member Entered (fresh_whole first) ms s

-- WHAT DEMAND 3 SAYS OF ONE LIST, over the ledger's board and the bytes after it
pub record Demand3 (B : Board) (s : State) : Type 0 where
  -- SCOPE 6.12: no ring, in the words of 1.13 and in those of 1.14
  pub ring : NoRing B (cause_of s.slots) (killer_of s.killers)
  pub escape : EscapeFromAll B (cause_of s.slots) (killer_of s.killers)
  -- SCOPE 6.13: the slot that a full plan gives a call is not struck
  pub plan : (plan : ℕ → ℕ) → FullPlan B plan → (c : ℕ) → c < length B.counts → Struck B (cause_of s.slots) c (plan c) → ⊥
  -- SCOPE 6.15: causes are what 1.12 says
  pub cause : (c t : ℕ) → Struck B (cause_of s.slots) c t → Caused B (cause_of s.slots) c t
  -- SCOPE 6.15: killers are what 1.11 says, and a living row has none
  pub killer : (p : ℕ) (r : Rule) → InForce B p r → (w : ℕ) → w < length r.rows
      → ((killer_of s.killers p w ≡ 255) × Alive B r w) ⊎ (KillerIn B (killer_of s.killers) (Struck B (cause_of s.slots)) r p w × Dead B r w)
  -- demand 2 after the list (SCOPE 6.11): the bytes say open exactly where the definition does
  pub viable : (c t : ℕ) → Open B (cause_of s.slots) c t ↔ Viable B c t

-- AND OF TWO LISTS (SCOPE 6.14, 6.21): with the same calls and counts, at least the same rules after the second, and no call cancelled after it that is not after the first,
-- each slot open after it is open after the first, on calls cancelled after neither
abbrev pub Demand3Two : Board → State → Board → State → Type 0
Demand3Two B s B' s' = AtLeast B B' → (c t : ℕ) → Live B c → Live B' c → Open B' (cause_of s'.slots) c t → Open B (cause_of s.slots) c t
