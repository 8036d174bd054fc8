-- The lines of the calls, slot by slot, and of the whole board; on a state that is a ledger's they are the definition's. Assumes nothing.
use Rattle.std.specs.Prelude.{◌≡◌, Bool, ℕ, zero, suc, ◌+◌, ◌*◌, ◌≤◌, ◌<◌, length, get_or, eqb}
use Rattle.std.proofs.Math.Path.{refl, ap}
use Rattle.std.proofs.Common.{sym, ◌∙◌, arith, eq-eqb, ne_eqb, List, [], ◌∷◌, ◌++◌}
use Rattle.std.proofs.Math.Bool.{true, false, cond}
use Rattle.model.specs.Board.{cancelled_on?, Shape}
use Rattle.model.specs.Tests.{up_from, keep_only}
use Rattle.model.specs.Filter.{in?, open_of}
use Rattle.model.specs.Ledger.{Ledger}
use Rattle.model.specs.Report.{slot_count, open?}
use Rattle.model.specs.Representation.{Represents}
use Rattle.model.specs.Sheet.{spaced, line, open_line, cancelled_line, total_line, call_line, call_lines, board_lines}
use Rattle.model.specs.Summary.{open_total}
use Rattle.model.proofs.Laws.Cancelled.{first_held}
use Rattle.model.proofs.Laws.Reports.{open_in}
use Rattle.model.proofs.Laws.Summary.{total_of_bytes}
use Rattle.sheet_lines.specs.Append.{Split}
use Rattle.sheet_lines.specs.Joined.{joined}
use Rattle.sheet_lines.specs.Lines.{start}
use Rattle.layout.specs.Places.{cause_of, cancelled_byte}
use Rattle.layout.specs.Memory.{State}
use Rattle.sheet_lines.specs.Calls.{open_numbers, call_slots, call_parts, slot_line, open_number, calls_and_total}
use Rattle.sheet_lines.proofs.Laws.Joined.{joined_over, joined_same}
use Rattle.sheet_lines.proofs.Laws.Lines.{spaced_append, line_parts_lem}

pub open_number_lem : (slots : List ℕ) (c s : ℕ) → cause_of slots c s ≡ 255 → open_number slots c s ≡ spaced (s ∷ [])
unfolding open_number
open_number_lem slots c s e = rw (eq-eqb (cause_of slots c s) 255 e) refl

pub no_number : (slots : List ℕ) (c s : ℕ) → (cause_of slots c s ≡ 255 → ⊥) → open_number slots c s ≡ []
unfolding open_number
no_number slots c s n = rw (ne_eqb (cause_of slots c s) 255 n) refl

-- one after another they are those of the call
pub open_joined : (slots : List ℕ) (c : ℕ) → joined (open_number slots c) 32 ≡ spaced (open_numbers slots c)
unfolding open_numbers open_number
open_joined slots c = joined_over (open_number slots c) (λ l. spaced (keep_only (open? slots c) l)) refl each 32
  where
    each : (s : ℕ) (l : List ℕ) → spaced (keep_only (open? slots c) (s ∷ l)) ≡ open_number slots c s ++ spaced (keep_only (open? slots c) l)
    each s l = go (open? slots c s)
      where
        go : (b : Bool) → spaced (cond b (s ∷ keep_only (open? slots c) l) (keep_only (open? slots c) l)) ≡ cond b (spaced (s ∷ [])) [] ++ spaced (keep_only (open? slots c) l)
        go true = sym (spaced_append (s ∷ []) (keep_only (open? slots c) l))
        go false = refl

-- behind a call's number: by the byte of its first slot, the dash or the open slots
first_place : (slots : List ℕ) (c : ℕ) → cause_of slots c 0 ≡ get_or slots (32 * c) 0
first_place slots c = let e : 32 * c + 0 ≡ 32 * c = omega arith in rw e refl

pub dash : (slots : List ℕ) (c : ℕ) → get_or slots (32 * c) 0 ≡ cancelled_byte → call_slots slots c ≡ 32 ∷ 45 ∷ []
unfolding call_slots
dash slots c e = rw (eq-eqb (cause_of slots c 0) cancelled_byte (first_place slots c ∙ e)) refl

pub no_dash : (slots : List ℕ) (c : ℕ) → (get_or slots (32 * c) 0 ≡ cancelled_byte → ⊥) → call_slots slots c ≡ spaced (open_numbers slots c)
unfolding call_slots
no_dash slots c n = rw (ne_eqb (cause_of slots c 0) cancelled_byte (λ e. n (sym (first_place slots c) ∙ e))) refl

pub slot_parts : (slots : List ℕ) (c : ℕ) → Split (call_parts slots c) (slot_line slots c)
unfolding slot_line
slot_parts slots c = record { same = refl }

-- THE SAME LINES: what a test keeps goes by the numbers that are there
keep_same : (f g : ℕ → Bool) (i n : ℕ) → ((t : ℕ) → t < i + n → f t ≡ g t) → keep_only f (up_from i n) ≡ keep_only g (up_from i n)
keep_same f g i zero same = refl
keep_same f g i (suc n) same = let e = keep_same f g (suc i) n (λ t h. same t (omega arith)) in let d = same i (omega arith) in rw (e, d) refl

-- lines of calls and a total that agree
calls_and_total_same : (n : ℕ) (lines lines' : List ℕ) (total total' : ℕ) → lines ≡ lines' → total ≡ total'
    → cond (eqb n 0) [] (lines ++ total_line total) ≡ cond (eqb n 0) [] (lines' ++ total_line total')
calls_and_total_same n lines lines' total total' same counted = rw (same, counted) refl

module _ (L : Ledger) (s : State) (rep : Represents L s) (shape : Shape L.board) where
  -- the byte of a call's first slot says whether the call is cancelled, and the bytes of the others which of its slots are open
  slot_line_lem : (c : ℕ) → c < 32 → slot_line s.slots c ≡ call_line L.board c
  unfolding slot_line call_slots open_numbers
  slot_line_lem c lc =
      ap (λ (b : Bool). start 99 c ++ (cond b (32 ∷ 45 ∷ []) (spaced (open_numbers s.slots c)) ++ (10 ∷ []))) (first_held L.board shape rep.stored c lc)
      ∙ go (cancelled_on? L.board c)
    where
      go : (b : Bool) → start 99 c ++ (cond b (32 ∷ 45 ∷ []) (spaced (open_numbers s.slots c)) ++ (10 ∷ [])) ≡ cond b (cancelled_line c) (open_line (open_of L.board) c)
      go true = refl
      go false =
          (line_parts_lem 99 c (open_numbers s.slots c)).same
          ∙ ap (λ (l : List ℕ). line 99 (c ∷ l)) (keep_same (open? s.slots c) (in? (open_of L.board) c) 0 32 (λ t lt. open_in L s rep c t lc lt))

  pub call_lines_lem : (n : ℕ) → n ≤ 32 → joined (slot_line s.slots) n ≡ call_lines L.board (up_from 0 n)
  call_lines_lem n h =
      joined_same (slot_line s.slots) (call_line L.board) n (λ c lc. slot_line_lem c (omega arith))
      ∙ joined_over (call_line L.board) (call_lines L.board) refl (λ c cs. refl) n

  -- with the number of calls, and the open slots of the whole behind them, they are the board's
  pub board_lines_lem : calls_and_total (length L.board.counts) s.slots ≡ board_lines L.board
  board_lines_lem =
      let n = length L.board.counts in
      calls_and_total_same n (joined (slot_line s.slots) n) (call_lines L.board (up_from 0 n)) (slot_count (open? s.slots)) (open_total L.board)
      (call_lines_lem n shape.calls) (sym (total_of_bytes L s rep))
