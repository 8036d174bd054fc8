-- THE CHECKS OF KINDS 2 AND 3 OVER THE BYTES, as the code makes them on any contents. On a state that is a ledger's
-- the first that holds is that of SCOPE 4.3 (Laws/Fields).
use Rattle.std.specs.Prelude.{Bool, ◌||◌, List, [], ◌∷◌, ℕ, ◌%◌, min, get_or, eqb, ltb, leb}
use Rattle.layout.specs.declared.value.RuleData.{RuleData}
use Rattle.model.specs.declared.command.Head.{Head}
use Rattle.model.specs.declared.command.Row.{Row}
use Rattle.model.specs.Tests.{some?, every?}
use Rattle.model.specs.Commands.{scope_of, slots_of}
use Rattle.model.specs.Ledger.{bad_spare?, bad_number?}
use Rattle.model.specs.Representation.{no_calls?}
use Rattle.model.specs.Numbers as refused
use Rattle.layout.specs.Places.{own_place, cancelled?}

-- 8: a rule cannot have so many columns
abbrev pub bad_arity? : ℕ → Bool
bad_arity? n = ltb n 1 || ltb 4 n

-- 9: one of the first n calls is 32 or more, or has no slots
abbrev pub off_board? : List ℕ → ℕ → Bool
off_board? counts x = leb 32 x || eqb (get_or counts x 0) 0

abbrev pub call_off_board? : List ℕ → List ℕ → ℕ → Bool
call_off_board? counts scope n = some? n λ k. off_board? counts (get_or scope k 255)

-- 29: one of the first n calls is cancelled, by the slot bytes
abbrev pub call_cancelled? : List ℕ → List ℕ → ℕ → Bool
call_cancelled? slots scope n = some? n λ k. cancelled? slots (get_or scope k 255)

-- 10: one of the first n calls is one of those before it
abbrev pub call_before? : List ℕ → ℕ → Bool
call_before? scope k = some? k λ j. eqb (get_or scope j 255) (get_or scope k 255)

abbrev pub call_twice? : List ℕ → ℕ → Bool
call_twice? scope n = some? n (call_before? scope)

-- how many columns and rows are looked at: any byte may stand for their number
abbrev pub capped_columns : ℕ → ℕ
capped_columns arity = min arity 4

abbrev pub capped_rows : ℕ → ℕ
capped_rows length = min length 64

-- KIND 2, in the order of SCOPE 4.3
abbrev pub head_checks : List ℕ → List ℕ → Head → List (Bool × ℕ)
head_checks counts slots h =
    (no_calls? counts, refused.no_board)
    ∷ (bad_number? h.number, refused.bad_number)
    ∷ (bad_arity? h.arity, refused.bad_arity)
    ∷ (call_off_board? counts (scope_of h) (capped_columns h.arity), refused.call_off_board)
    ∷ (call_cancelled? slots (scope_of h) (capped_columns h.arity), refused.cancelled_call)
    ∷ (call_twice? (scope_of h) (capped_columns h.arity), refused.call_twice)
    ∷ (bad_spare? (capped_columns h.arity) (scope_of h), refused.spare_field)
    ∷ []

-- 14: the slot in one of the first n columns is not below the count of the column's call. Numbers of calls are taken modulo 32, so that any byte names one
abbrev pub slot_off? : List ℕ → List ℕ → List ℕ → ℕ → Bool
slot_off? counts scope slots k = leb (get_or counts (get_or scope k 0 % 32) 0) (get_or slots k 255)

abbrev pub slot_off_call? : List ℕ → List ℕ → List ℕ → ℕ → Bool
slot_off_call? counts scope slots n = some? n (slot_off? counts scope slots)

-- 15: one of the first m rows has these slots in the first n columns
abbrev pub same_row? : List ℕ → List ℕ → ℕ → ℕ → Bool
same_row? rows slots n v = every? n λ k. eqb (get_or rows (own_place v k) 0) (get_or slots k 255)

abbrev pub row_in_draft? : List ℕ → List ℕ → ℕ → ℕ → Bool
row_in_draft? rows slots n m = some? m (same_row? rows slots n)

-- KIND 3, in the order of SCOPE 4.3, of the draft's rule
abbrev pub add_row_checks : List ℕ → RuleData → Row → List (Bool × ℕ)
add_row_checks counts rule w =
    (no_calls? counts, refused.no_board)
    ∷ (eqb rule.arity 0, refused.no_draft)
    ∷ (leb 64 rule.length, refused.draft_full)
    ∷ (slot_off_call? counts rule.scope (slots_of w) (capped_columns rule.arity), refused.slot_off_call)
    ∷ (bad_spare? (capped_columns rule.arity) (slots_of w), refused.spare_field)
    ∷ (row_in_draft? rule.rows (slots_of w) (capped_columns rule.arity) (capped_rows rule.length), refused.row_twice)
    ∷ []
