-- THE NUMBERS OF THE REFUSALS (SCOPE 4.1), each said once. The code has them as the constants of src/refusal.rt.
use Rattle.std.specs.Prelude.{ℕ}

-- a lent buffer is not of its length
abbrev pub buffer_length : ℕ
buffer_length = 1

-- the file is too long
abbrev pub file_length : ℕ
file_length = 2

-- no such kind, or no byte at all
abbrev pub unknown_kind : ℕ
unknown_kind = 3

-- the body is cut short, or bytes are left over
abbrev pub body_length : ℕ
body_length = 4

-- the slot counts are not those of a board
abbrev pub bad_counts : ℕ
bad_counts = 5

-- there is no board
abbrev pub no_board : ℕ
no_board = 6

-- a rule's number is over 63
abbrev pub bad_number : ℕ
bad_number = 7

-- the arity is not 1 to 4
abbrev pub bad_arity : ℕ
bad_arity = 8

-- a call of the rule is not on the board
abbrev pub call_off_board : ℕ
call_off_board = 9

-- a call stands twice in the rule
abbrev pub call_twice : ℕ
call_twice = 10

-- a field past the arity is not 255
abbrev pub spare_field : ℕ
spare_field = 11

-- there is no draft
abbrev pub no_draft : ℕ
no_draft = 12

-- the draft has 64 rows
abbrev pub draft_full : ℕ
draft_full = 13

-- a slot of the row is not on its call
abbrev pub slot_off_call : ℕ
slot_off_call = 14

-- the row is in the draft already
abbrev pub row_twice : ℕ
row_twice = 15

-- the number is in force already
abbrev pub in_force : ℕ
in_force = 16

-- the number is not in force
abbrev pub not_in_force : ℕ
not_in_force = 17

-- there is no such call
abbrev pub no_call : ℕ
no_call = 18

-- there is no such slot
abbrev pub no_slot : ℕ
no_slot = 19

-- there is no such row
abbrev pub no_row : ℕ
no_row = 20

-- there is no such column
abbrev pub no_column : ℕ
no_column = 21

-- the lent summary table is not of its length
abbrev pub table_length : ℕ
table_length = 22

-- a gap rule's form is not 1 to 3
abbrev pub bad_form : ℕ
bad_form = 23

-- the gap is over 31, or not 0 in form 3
abbrev pub bad_gap : ℕ
bad_gap = 24

-- over 64 pairs of slots fit
abbrev pub too_many_pairs : ℕ
too_many_pairs = 25

-- a mark's name is over 1
abbrev pub bad_name : ℕ
bad_name = 26

-- nothing is kept under the name
abbrev pub nothing_kept : ℕ
nothing_kept = 27

-- the call is cancelled already
abbrev pub already_cancelled : ℕ
already_cancelled = 28

-- a call of a new rule is cancelled
abbrev pub cancelled_call : ℕ
cancelled_call = 29

-- a plan is not 32 bytes
abbrev pub plan_length : ℕ
plan_length = 32

-- a byte of a plan is no slot of its call, or is not 255 where the call gets none
abbrev pub bad_plan_byte : ℕ
bad_plan_byte = 33
