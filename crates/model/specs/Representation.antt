-- THE REPRESENTATION: which value and bytes are a ledger's (SCOPE 2). Every field and byte is given by an equation, except the causes and killers, which are
-- free within conditions (10.1).
use Rattle.std.specs.Prelude.{◌≡◌, Bool, cond, List, [], ◌↔◌, ℕ, ◌≤◌, ◌<◌, length, get_or, eqb, ltb}
use Rattle.std.proofs.Math.Option.{Option, none, some}
use Rattle.layout.specs.declared.value.Heads.{Heads}
use Rattle.layout.specs.declared.value.RuleData.{RuleData}
use Rattle.layout.specs.declared.value.Draft.{Draft}
use Rattle.model.specs.Board.{Rule, Board, call_at, slot_at, OnBoard, Viable}
use Rattle.model.specs.Records.{Recorded}
use Rattle.model.specs.Ledger.{Ledger, NumberedRule, draft_or}
use Rattle.layout.specs.Places.{cause_of, killer_of, own_place, row_place, scope_place, cancelled_byte}
use Rattle.layout.specs.Memory.{State}
use Rattle.layout.specs.Sizes.{killers_length, rows_length, slots_length}

-- the rule under number p; without columns and rows where none is in force
abbrev pub rule_or : Option Rule → Rule
rule_or none = record { scope = []; rows = [] }
rule_or (some r) = r

abbrev pub rule_at : Board → ℕ → Rule
rule_at B p = rule_or (get_or B.rules p none)

-- counts and rule heads: 0 for what is not there, 255 past a rule's columns
pub record Headed (B : Board) (h : Heads) : Type 0 where
  pub counts_size : length h.counts ≡ 32
  pub arity_size : length h.arity ≡ 64
  pub scope_size : length h.scope ≡ 256
  pub lengths_size : length h.lengths ≡ 64
  pub counts : (c : ℕ) → c < 32 → get_or h.counts c 0 ≡ get_or B.counts c 0
  pub arity : (p : ℕ) → p < 64 → get_or h.arity p 0 ≡ length (rule_at B p).scope
  pub scope : (p k : ℕ) → p < 64 → k < 4 → get_or h.scope (scope_place p k) 0 ≡ call_at (rule_at B p) k
  pub lengths : (p : ℕ) → p < 64 → get_or h.lengths p 0 ≡ length (rule_at B p).rows

-- there is no board where the first call has no slots, by the counts that the value holds
abbrev pub no_calls? : List ℕ → Bool
no_calls? counts = eqb (get_or counts 0 0) 0

-- THE ROW BYTES (SCOPE 2.1): the slots of each row; `slot_at` is 255 past the columns, past the rows, and for a rule that is not there
pub record RowBytes (B : Board) (rows : List ℕ) : Type 0 where
  pub rows_size : length rows ≡ rows_length
  pub bytes : (p w k : ℕ) → p < 64 → w < 64 → k < 4 → get_or rows (row_place p w k) 0 ≡ slot_at (rule_at B p) w k

-- THE BYTE OF A SLOT THAT IS IN NO SET (SCOPE 2.3, 2.12): of a cancelled call, or past the call's slots
abbrev pub off_byte : Board → ℕ → ℕ → ℕ
off_byte B c s = cond (ltb s (get_or B.counts c 0)) cancelled_byte 254

-- A BOARD IS STORED in rule heads and three lists of bytes
pub record Stored (B : Board) (heads : Heads) (rows killers slots : List ℕ) : Type 0 where
  pub headed : Headed B heads
  pub row_bytes_lem : RowBytes B rows
  -- SCOPE 2.2: 255 where the rule has no such row; what the byte of a row is follows from `recorded`
  pub killers_size : length killers ≡ killers_length
  pub spare : (p w : ℕ) → p < 64 → w < 64 → length (rule_at B p).rows ≤ w → killer_of killers p w ≡ 255
  -- SCOPE 2.3, 2.12: 254 where the call has no such slot, 253 where it has and is cancelled; the other bytes are in `viable` and `recorded`
  pub slots_size : length slots ≡ slots_length
  pub off : (c s : ℕ) → c < 32 → s < 32 → (OnBoard B c s → ⊥) → cause_of slots c s ≡ off_byte B c s
  -- demand 2 (SCOPE 6.11): the byte says open exactly where the definition does
  pub viable : (c s : ℕ) → c < 32 → s < 32 → (cause_of slots c s ≡ 255) ↔ Viable B c s
  -- causes and killers
  pub recorded : Recorded B (cause_of slots) (killer_of killers)

-- A RULE IS HELD as data: 255 past its columns and its rows
pub record RuleHeld (r : Rule) (rule : RuleData) : Type 0 where
  pub scope_size : length rule.scope ≡ 4
  pub rows_size : length rule.rows ≡ 256
  pub arity : rule.arity ≡ length r.scope
  pub scope : (k : ℕ) → k < 4 → get_or rule.scope k 0 ≡ call_at r k
  pub length_is : rule.length ≡ length r.rows
  pub rows : (w k : ℕ) → w < 64 → k < 4 → get_or rule.rows (own_place w k) 0 ≡ slot_at r w k

-- A DRAFT IS HELD in the draft's record: the empty one where there is none (SCOPE 2.5)
pub record Drafted (d : Option NumberedRule) (draft : Draft) : Type 0 where
  pub number : draft.number ≡ (draft_or d).number
  pub rule : RuleHeld (draft_or d).rule draft.rule

-- THE STATE IS THE LEDGER'S
pub record Represents (L : Ledger) (s : State) : Type 0 where
  pub stored : Stored L.board s.value.heads s.rows s.killers s.slots
  pub drafted : Drafted L.draft s.value.draft
