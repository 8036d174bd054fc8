-- THE QUESTIONS (SCOPE 5). Each has an equation that holds whatever the memory holds, read off the value and the bytes, and says what its answer means on a
-- state that is a ledger's; Laws.Questions proves that the second follows from the first.
use Rattle.std.specs.Prelude.{◌≡◌, Bool, ◌&&◌, cond, List, [], ◌∷◌, ◌++◌, ◌↔◌, ◌⊎◌, ℕ, zero, suc, ◌+◌, ◌/◌, ◌%◌, ◌^◌, ◌<◌, length, get_or, take, drop, T, eqb, ltb, leb, Option, Some, None, Result, Ok, Err}
use Rattle.layout.specs.declared.value.Heads.{Heads}
use Rattle.model.specs.declared.answer.OpenSlots.{OpenSlots}
use Rattle.model.specs.declared.answer.SlotState.{SlotState}
use Rattle.model.specs.declared.answer.SlotState.TheVariants as state
use Rattle.model.specs.declared.answer.RowState.{RowState}
use Rattle.model.specs.declared.answer.RowState.TheVariants as row
use Rattle.model.specs.declared.refusal.Refusal.{Refusal}
use Rattle.model.specs.Board.{Rule, Board, call_at, slot_at, Cancelled, OnBoard, InForce, Active, InScope, Viable, Alive}
use Rattle.model.specs.Tests.{count_below, first}
use Rattle.model.specs.Ledger.{Ledger, LedgerShape, no_board?, bad_number?, not_in_force?}
use Rattle.model.specs.Report.{open?}
use Rattle.model.specs.Promise.{values_at}
use Rattle.model.specs.Representation.{no_calls?, Represents, rule_at}
use Rattle.layout.specs.Places.{cause_of, columns_of, killer_of, rows_of, row_place, scope_place, row_start, cancelled_byte, cancelled?}
use Rattle.layout.specs.Memory.{State, lent_of}
use Rattle.layout.specs.Sizes.{Lent, bad_lent?}
use Rattle.model.specs.Refusals.{first_of, number_of, AnsweredBy}
use Rattle.model.specs.Numbers as refused

-- 1: of what is lent with a question
abbrev pub asked_conditions : Lent → List (Bool × ℕ)
asked_conditions lent = (bad_lent? lent, refused.buffer_length) ∷ []

-- THE REFUSALS, off a ledger, in the order of SCOPE 4.3: 1 and 6 of every question; then 18 of a call and 19 of its slot, or 7 and 17 of a rule and 20 of its
-- row, or 21 of its column
abbrev pub board_conditions : Ledger → Lent → List (Bool × ℕ)
board_conditions L lent = asked_conditions lent ++ ((no_board? L, refused.no_board) ∷ [])

abbrev pub call_conditions : Ledger → Lent → ℕ → List (Bool × ℕ)
call_conditions L lent c = board_conditions L lent ++ ((leb (length L.board.counts) c, refused.no_call) ∷ [])

abbrev pub slot_conditions : Ledger → Lent → ℕ → ℕ → List (Bool × ℕ)
slot_conditions L lent c t = call_conditions L lent c ++ ((leb (get_or L.board.counts c 0) t, refused.no_slot) ∷ [])

abbrev pub rule_conditions : Ledger → Lent → ℕ → List (Bool × ℕ)
rule_conditions L lent p = board_conditions L lent ++ ((bad_number? p, refused.bad_number) ∷ (not_in_force? L p, refused.not_in_force) ∷ [])

abbrev pub row_conditions : Ledger → Lent → ℕ → ℕ → List (Bool × ℕ)
row_conditions L lent p w = rule_conditions L lent p ++ ((leb (length (rule_at L.board p).rows) w, refused.no_row) ∷ [])

-- the column, 21, comes before the slot, 19: a slot belongs to the column's call
abbrev pub support_conditions : Ledger → Lent → ℕ → ℕ → ℕ → List (Bool × ℕ)
support_conditions L lent p k t =
    let r = rule_at L.board p in
    rule_conditions L lent p ++ ((leb (length r.scope) k, refused.no_column) ∷ (leb (get_or L.board.counts (call_at r k) 0) t, refused.no_slot) ∷ [])

-- THE SAME, off the value, whatever it holds; a call that is not there has no slots
abbrev pub slots_held : Heads → ℕ → ℕ
slots_held h c = get_or h.counts c 0

abbrev pub board_checks : State → List (Bool × ℕ)
board_checks s = asked_conditions (lent_of s) ++ ((no_calls? s.value.heads.counts, refused.no_board) ∷ [])

abbrev pub call_checks : State → ℕ → List (Bool × ℕ)
call_checks s c = board_checks s ++ ((eqb (slots_held s.value.heads c) 0, refused.no_call) ∷ [])

abbrev pub slot_checks : State → ℕ → ℕ → List (Bool × ℕ)
slot_checks s c t = call_checks s c ++ ((leb (slots_held s.value.heads c) t, refused.no_slot) ∷ [])

abbrev pub rule_checks : State → ℕ → List (Bool × ℕ)
rule_checks s p = board_checks s ++ ((bad_number? p, refused.bad_number) ∷ (eqb (columns_of s.value.heads.arity p) 0, refused.not_in_force) ∷ [])

abbrev pub row_checks : State → ℕ → ℕ → List (Bool × ℕ)
row_checks s p w = rule_checks s p ++ ((leb (rows_of s.value.heads.lengths p) w, refused.no_row) ∷ [])

abbrev pub support_checks : State → ℕ → ℕ → ℕ → List (Bool × ℕ)
support_checks s p k t =
    let h = s.value.heads in
    rule_checks s p ++ ((leb (columns_of h.arity p) k, refused.no_column) ∷ (leb (slots_held h (get_or h.scope (scope_place p k) 0)) t, refused.no_slot) ∷ [])

-- SLOTS OF A CALL (SCOPE 5.1). A mask is the sum of the weights, 2 to the s, of the numbers s below n that pass
abbrev pub mask_of : ℕ → (ℕ → Bool) → ℕ
mask_of zero f = 0
mask_of (suc n) f = mask_of n f + cond (f n) (2 ^ n) 0

-- the values of its answer
abbrev pub slots_values : Result OpenSlots Refusal → List ℕ
slots_values (Ok o) = o.mask ∷ o.count ∷ []
slots_values (Err e) = []

-- what the slot bytes show of a call
abbrev pub slots_shown : List ℕ → ℕ → OpenSlots
slots_shown bytes c = record { mask = mask_of 32 (open? bytes c); count = count_below 32 (open? bytes c) }

-- bit t of a mask, which weighs 2 to the t, is 1: the mask halved t times is odd
abbrev pub bit? : ℕ → ℕ → Bool
bit? m zero = eqb (m % 2) 1
bit? m (suc t) = bit? (m / 2) t

-- what it says of the board: bit t is 1 exactly where slot t is open, and the count is that of the bits that are 1
abbrev pub SlotsMeans : Board → ℕ → Result OpenSlots Refusal → Type 0
SlotsMeans B c (Ok o) = ((t : ℕ) → T (bit? o.mask t) ↔ Viable B c t) × (o.count ≡ count_below 32 (bit? o.mask))
SlotsMeans B c (Err e) = ⊥

pub record SlotsAnswered (L : Ledger) (s : State) (c : ℕ) (given : Result OpenSlots Refusal) : Type 0 where
  pub number : number_of given ≡ first_of (call_conditions L (lent_of s) c)
  pub values : slots_values given ≡ values_at (first_of (call_conditions L (lent_of s) c)) (mask_of 32 (open? s.slots c) ∷ count_below 32 (open? s.slots c) ∷ [])
  pub means : first_of (call_conditions L (lent_of s) c) ≡ 0 → SlotsMeans L.board c given

pub record SlotsPromise (s : State) (c : ℕ) (given : Result OpenSlots Refusal) : Type 0 where
  pub equation : AnsweredBy (first_of (call_checks s c)) (slots_shown s.slots c) given
  pub answered : (L : Ledger) → LedgerShape L → Represents L s → SlotsAnswered L s c given

-- STATE OF A SLOT (SCOPE 5.2): the values of its answer, and what the slot's byte shows
-- the cause; 255 of an open slot and 253 of one of a cancelled call, as in its byte
abbrev pub state_values : Result SlotState Refusal → List ℕ
state_values (Ok state.Open) = 255 ∷ []
state_values (Ok (state.Struck n)) = n ∷ []
state_values (Ok state.Cancelled) = cancelled_byte ∷ []
state_values (Err e) = []

abbrev pub state_shown : ℕ → SlotState
state_shown byte = cond (eqb byte 255) state.Open (cond (eqb byte cancelled_byte) state.Cancelled (state.Struck byte))

-- what it says of the board: open is viable; struck is not, its call is not cancelled, and the cause is the number of a rule in force on the call; or the call is
-- cancelled (SCOPE 5.6)
abbrev pub StateMeans : Board → ℕ → ℕ → Result SlotState Refusal → Type 0
StateMeans B c t (Ok state.Open) = Viable B c t
StateMeans B c t (Ok (state.Struck n)) = OnBoard B c t × (Viable B c t → ⊥) × ((r : Rule) × InForce B n r × InScope B r c)
StateMeans B c t (Ok state.Cancelled) = Cancelled B c
StateMeans B c t (Err e) = ⊥

pub record StateAnswered (L : Ledger) (s : State) (c t : ℕ) (given : Result SlotState Refusal) : Type 0 where
  pub number : number_of given ≡ first_of (slot_conditions L (lent_of s) c t)
  pub values : state_values given ≡ values_at (first_of (slot_conditions L (lent_of s) c t)) (cause_of s.slots c t ∷ [])
  pub means : first_of (slot_conditions L (lent_of s) c t) ≡ 0 → StateMeans L.board c t given

pub record StatePromise (s : State) (c t : ℕ) (given : Result SlotState Refusal) : Type 0 where
  pub equation : AnsweredBy (first_of (slot_checks s c t)) (state_shown (cause_of s.slots c t)) given
  pub answered : (L : Ledger) → LedgerShape L → Represents L s → StateAnswered L s c t given

-- A ROW OF A RULE (SCOPE 5.3): the values of its answer, the killer's column or 255 of a living row, as in its killer's byte; and what that byte shows
abbrev pub row_values : Result RowState Refusal → List ℕ
row_values (Ok row.Alive) = 255 ∷ []
row_values (Ok (row.Killed k)) = k ∷ []
row_values (Err e) = []

abbrev pub row_shown : ℕ → RowState
row_shown byte = cond (eqb byte 255) row.Alive (row.Killed byte)

-- what it says of the board: a killer is the column of a slot of the row that is not viable
abbrev pub RowMeans : Board → Rule → ℕ → Result RowState Refusal → Type 0
RowMeans B r w (Ok row.Alive) = Alive B r w
RowMeans B r w (Ok (row.Killed k)) = Active B r k × (Viable B (call_at r k) (slot_at r w k) → ⊥)
RowMeans B r w (Err e) = ⊥

pub record RowAnswered (L : Ledger) (s : State) (p w : ℕ) (given : Result RowState Refusal) : Type 0 where
  pub number : number_of given ≡ first_of (row_conditions L (lent_of s) p w)
  pub values : row_values given ≡ values_at (first_of (row_conditions L (lent_of s) p w)) (killer_of s.killers p w ∷ [])
  pub means : first_of (row_conditions L (lent_of s) p w) ≡ 0 → RowMeans L.board (rule_at L.board p) w given

pub record RowPromise (s : State) (p w : ℕ) (given : Result RowState Refusal) : Type 0 where
  pub equation : AnsweredBy (first_of (row_checks s p w)) (row_shown (killer_of s.killers p w)) given
  pub answered : (L : Ledger) → LedgerShape L → Represents L s → RowAnswered L s p w given

-- THAT ROW'S FOUR BYTES (SCOPE 5.4), where they stand in the row buffer that is lent; no bytes where the row's question is refused
abbrev pub bytes_by : ℕ → List ℕ → ℕ → ℕ → List ℕ
bytes_by zero rows p w = take 4 (drop (row_start p w) rows)
bytes_by (suc n) rows p w = []

abbrev pub row_bytes_answer : State → ℕ → ℕ → List ℕ
row_bytes_answer s p w = bytes_by (first_of (row_checks s p w)) s.rows p w

-- what it says of the board: the slots of the row, 255 past the last column
pub record RowBytesAnswered (L : Ledger) (s : State) (p w : ℕ) (given : List ℕ) : Type 0 where
  pub refused : (n : ℕ) → first_of (row_conditions L (lent_of s) p w) ≡ suc n → given ≡ []
  pub size : first_of (row_conditions L (lent_of s) p w) ≡ 0 → length given ≡ 4
  pub means : first_of (row_conditions L (lent_of s) p w) ≡ 0 → (k : ℕ) → k < 4 → get_or given k 0 ≡ slot_at (rule_at L.board p) w k

pub record RowBytesPromise (s : State) (p w : ℕ) (given : List ℕ) : Type 0 where
  pub equation : given ≡ row_bytes_answer s p w
  pub answered : (L : Ledger) → LedgerShape L → Represents L s → RowBytesAnswered L s p w given

-- SUPPORT (SCOPE 5.5): the lowest-numbered living row of the rule with the slot in the column, or none. Its values: the row's number; 255, which is no row's, for none
abbrev pub support_values : Result (Option ℕ) Refusal → List ℕ
support_values (Ok (Some w)) = w ∷ []
support_values (Ok None) = 255 ∷ []
support_values (Err e) = []

-- row w has no killer and the slot t in column k
abbrev pub supports? : State → ℕ → ℕ → ℕ → ℕ → Bool
supports? s p k t w = eqb (killer_of s.killers p w) 255 && eqb (get_or s.rows (row_place p w k) 0) t

-- the call of column k is cancelled
abbrev pub column_cancelled? : State → ℕ → ℕ → Bool
column_cancelled? s p k = cancelled? s.slots (get_or s.value.heads.scope (scope_place p k) 0)

-- the lowest of the rule's first m rows that does; m where there is none, and where the column's call is cancelled (SCOPE 5.6)
abbrev pub support_row : State → ℕ → ℕ → ℕ → ℕ → ℕ
support_row s p k t m = cond (column_cancelled? s p k) m (first m (supports? s p k t))

-- the row found among m, or none where it is m; and the same as a value
abbrev pub found_row : ℕ → ℕ → Option ℕ
found_row m w = cond (ltb w m) (Some w) None

abbrev pub found_value : ℕ → ℕ → ℕ
found_value m w = cond (ltb w m) w 255

abbrev pub support_shown : State → ℕ → ℕ → ℕ → Option ℕ
support_shown s p k t =
    let m = rows_of s.value.heads.lengths p in
    found_row m (support_row s p k t m)

-- row w of the rule supports slot t in column k: the column is active, and the row is alive and has the slot there
pub record SupportingRow (B : Board) (r : Rule) (k t w : ℕ) : Type 0 where
  pub active : Active B r k
  pub there : w < length r.rows
  pub living : Alive B r w
  pub has : slot_at r w k ≡ t

-- and no lower-numbered row does
pub record LowestSupport (B : Board) (r : Rule) (k t w : ℕ) : Type 0 where
  pub supporting : SupportingRow B r k t w
  pub lowest : (v : ℕ) → v < w → SupportingRow B r k t v → ⊥

abbrev pub NoSupport : Board → Rule → ℕ → ℕ → Type 0
NoSupport B r k t = (w : ℕ) → SupportingRow B r k t w → ⊥

-- what it says of the board; and what its value does, 255 being no row's number
abbrev pub SupportMeans : Board → Rule → ℕ → ℕ → Result (Option ℕ) Refusal → Type 0
SupportMeans B r k t (Ok (Some w)) = LowestSupport B r k t w
SupportMeans B r k t (Ok None) = NoSupport B r k t
SupportMeans B r k t (Err e) = ⊥

abbrev pub SupportValueMeans : Board → Rule → ℕ → ℕ → ℕ → Type 0
SupportValueMeans B r k t w = LowestSupport B r k t w ⊎ ((w ≡ 255) × NoSupport B r k t)

pub record SupportAnswered (L : Ledger) (s : State) (p k t : ℕ) (given : Result (Option ℕ) Refusal) : Type 0 where
  pub number : number_of given ≡ first_of (support_conditions L (lent_of s) p k t)
  pub values : let m = length (rule_at L.board p).rows in
      support_values given ≡ values_at (first_of (support_conditions L (lent_of s) p k t)) (found_value m (support_row s p k t m) ∷ [])
  pub means : first_of (support_conditions L (lent_of s) p k t) ≡ 0 → SupportMeans L.board (rule_at L.board p) k t given
  pub value_means : first_of (support_conditions L (lent_of s) p k t) ≡ 0
      → (w : ℕ) × (support_values given ≡ w ∷ []) × SupportValueMeans L.board (rule_at L.board p) k t w

pub record SupportPromise (s : State) (p k t : ℕ) (given : Result (Option ℕ) Refusal) : Type 0 where
  pub equation : AnsweredBy (first_of (support_checks s p k t)) (support_shown s p k t) given
  pub answered : (L : Ledger) → LedgerShape L → Represents L s → SupportAnswered L s p k t given
