-- THE NUMBER OF CALLS, read off the slot counts: they stand before the first 0. Assumes nothing.
use Rattle.std.specs.Prelude.{◌≡◌, refl, List, [], ◌∷◌, ◌⊎◌, ℕ, zero, suc, ◌+◌, ◌≤◌, ◌<◌, length, get_or, eqb, ltb, cond, Option, Some, None, unwrap_or}
use Rattle.std.specs.List.{position_or_len}
use Rattle.std.proofs.lemmas.List.Recursion.{is_position_or_len}
use Rattle.std.proofs.Common.{sym, ap, ◌∙◌, inl, inr, ⊎_elim, eq-or-lt_of_le, arith, ne_eqb, lt-ltb, le-ltb}
use Rattle.tables.specs.Laws.Facts.{lt_or_le}
use Rattle.std.proofs.Math.ListN.{get_or-eq_default}
use Rattle.layout.specs.declared.value.Heads.{Heads}
use Rattle.model.specs.Board.{Board, Shape}
use Rattle.model.specs.Ledger.{Ledger, up_to_zero}
use Rattle.model.specs.Representation.{Headed, Represents}
use Rattle.model.specs.Sheet.{board_lines}
use Rattle.sheet_lines.specs.Calls.{calls_and_total}
use Rattle.layout.specs.Memory.{State}
use Rattle.sheet_lines.proofs.Laws.Calls.{board_lines_lem}

-- where none of the first n is 0 and the next is, n are those up to the first 0
pub first_zero : (l : List ℕ) (n : ℕ) → ((j : ℕ) → j < n → get_or l j 0 ≡ 0 → ⊥) → get_or l n 0 ≡ 0 → n ≡ length (up_to_zero l)
first_zero [] zero before here = refl
first_zero [] (suc n) before here = absurd (before 0 (omega arith) refl)
first_zero (zero ∷ l) zero before here = refl
first_zero (zero ∷ l) (suc n) before here = absurd (before 0 (omega arith) refl)
first_zero (suc x ∷ l) zero before here = absurd (omega arith)
first_zero (suc x ∷ l) (suc n) before here = ap suc (first_zero l n (λ j lt e. before (suc j) (omega arith) e) here)

-- the place of the first 0 is that number, or where there is none the length
zero_place : (l : List ℕ) → position_or_len (λ n. eqb n 0) l ≡ length (up_to_zero l)
zero_place l = sym (is_position_or_len (λ (m : List ℕ). length (up_to_zero m)) (λ n. eqb n 0) refl more l)
  where
    more : (x : ℕ) (m : List ℕ) → length (up_to_zero (x ∷ m)) ≡ cond (eqb x 0) 0 (1 + length (up_to_zero m))
    more zero m = refl
    more (suc x) m = rw (ne_eqb (suc x) 0 (λ e. omega arith)) (omega arith)

-- on a board's value that is the number of its calls
pub calls_counted : (B : Board) {h : Heads} → Shape B → Headed B h → length (up_to_zero h.counts) ≡ length B.counts
calls_counted B {h} shape headed =
    let n = length B.counts in
    let most = shape.calls in
    sym (first_zero h.counts n
    (λ j lt e. let positive = (shape.counts j lt).0 in omega (arith, headed.counts j (omega arith)))
    (end (eq-or-lt_of_le most)))
  where
    end : (length B.counts ≡ 32) ⊎ (length B.counts < 32) → get_or h.counts (length B.counts) 0 ≡ 0
    end (inl e) = get_or-eq_default h.counts 0 (omega (arith, headed.counts_size))
    end (inr lt) = headed.counts (length B.counts) lt ∙ get_or-eq_default B.counts 0 (omega arith)

-- so the lines with that number of calls are the board's
pub counted_lines_lem : (L : Ledger) (s : State) → Shape L.board → Represents L s
    → calls_and_total (length (up_to_zero s.value.heads.counts)) s.slots ≡ board_lines L.board
counted_lines_lem L s shape rep = rw (calls_counted L.board shape rep.stored.headed) (board_lines_lem L s rep shape)

-- no more are counted than there are counts
pub count_most : (l : List ℕ) → length (up_to_zero l) ≤ length l
count_most [] = omega arith
count_most (zero ∷ l) = omega arith
count_most (suc x ∷ l) = omega (arith, count_most l)

-- so that number is what a search for the first 0 finds, or the length where it finds none
pub zero_found : (l : List ℕ) (r : Option ℕ) {n : ℕ} → n ≡ length l
    → r ≡ cond (ltb (position_or_len (λ n. eqb n 0) l) (length l)) (Some (position_or_len (λ n. eqb n 0) l)) None → unwrap_or r n ≡ length (up_to_zero l)
zero_found l r all e =
    let place = zero_place l in
    ⊎_elim
    (λ (lt : position_or_len (λ n. eqb n 0) l < length l). rw (e, lt-ltb (position_or_len (λ n. eqb n 0) l) (length l) lt) place)
    (λ (le : length l ≤ position_or_len (λ n. eqb n 0) l). rw (e, le-ltb (position_or_len (λ n. eqb n 0) l) (length l) le) (omega (arith, count_most l)))
    (lt_or_le (position_or_len (λ n. eqb n 0) l) (length l))
