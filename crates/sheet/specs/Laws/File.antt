-- FROM THE FIRST ROUND TO THE LAST: the lines that are written and those that are left stay all of them, and after the last round those of the board are left.
-- Assumes nothing.
use Rattle.std.specs.Prelude.{◌≡◌, refl, Bool, true, false, cond, ℕ, zero, suc, ◌+◌, ◌/◌, ◌%◌, ◌≤◌, ◌<◌, length, eqb}
use Rattle.std.proofs.Common.{sym, ◌∙◌, arith, length-append, eq-eqb, ne_eqb, List, [], ◌++◌, append_assoc}
use Rattle.std.proofs.Math.Path.{ap}
use Rattle.model.specs.declared.command.Decoded.{Decoded}
use Rattle.model.specs.Tests.{count_below}
use Rattle.model.specs.Commands.{read_at}
use Rattle.model.specs.Ledger.{fresh, up_to_zero}
use Rattle.model.specs.Marks.{RepresentsMarked}
use Rattle.model.specs.Report.{slot_count, open?}
use Rattle.model.specs.Sheet.{total_line, reads_from, lines_from}
use Rattle.model.proofs.Laws.Shapes.{shape_fresh}
use Rattle.sheet_lines.specs.Append.{Room, Appended}
use Rattle.sheet_lines.specs.Joined.{joined}
use Rattle.sheet_lines.specs.Calls.{slot_line}
use Rattle.sheet.specs.declared.advance.Progress.{Progress}
use Rattle.sheet.specs.Advance.{ledger_next, line_of, Held, Advanced}
use Rattle.sheet.specs.File.{file_lines, counted_lines, Fits, Lined, Reached}
use Rattle.sheet.specs.Laws.Advance.{reads_end, advance_lines, advance_further, advance_shape}
use Rattle.layout.specs.Memory.{MarkedState}
use Rattle.layout.specs.Sizes.{slots_length}
use Rattle.sheet_lines.proofs.Laws.Append.{append_none, append_more, append_same, room_less, room_after}
use Rattle.sheet_lines.proofs.Laws.Counts.{counted_lines_lem, count_most}
use Rattle.sheet_lines.proofs.Laws.Lengths.{call_lines_most_lem, whole_most}
use Rattle.sheet_lines.specs.Lengths.{board_lines_most, line_most, decimal_end}

-- A NUMBER OF SLOTS has a decimal: there are no more than 1,024
has_decimal : (n : ℕ) → n ≤ slots_length → n < decimal_end
has_decimal n h = omega arith

-- no test passes more often than it is made
passes_most : (n : ℕ) (f : ℕ → Bool) → count_below n f ≤ n
passes_most zero f = omega arith
passes_most (suc n) f = go (f n) (passes_most n f)
  where
    go : (b : Bool) → count_below n f ≤ n → count_below n f + cond b 1 0 ≤ suc n
    go true h = omega arith
    go false h = omega arith

slots_most : (f : ℕ → ℕ → Bool) → slot_count f ≤ slots_length
slots_most f = passes_most slots_length (λ i. f (i / 32) (i % 32))

total_small : (slots : List ℕ) → slot_count (open? slots) < decimal_end
total_small slots = has_decimal (slot_count (open? slots)) (slots_most (open? slots))

-- THE LINES OF THE BOARD: of at most 32 calls, each of at most 91 bytes, and of the whole. The code counts the calls and the open slots
module _ (counts : List ℕ) (size : length counts ≡ 32) (n : ℕ) (is : n ≡ length (up_to_zero counts)) where
  pub calls_most : n ≤ 32
  calls_most = omega (arith, count_most counts)

  module _ (slots : List ℕ) where
    pub calls_room : {place : ℕ} {out : List ℕ} → Room place board_lines_most out → Room place (length (joined (slot_line slots) n)) out
    calls_room room = room_less room (omega (arith, calls_most, call_lines_most_lem slots n calls_most))

    -- there is none where there is no call
    pub none_appended : n ≡ 0 → (place : ℕ) (out : List ℕ) → Appended (counted_lines counts slots) place out out place
    unfolding counted_lines
    none_appended none place out =
        append_same (rw (eq-eqb (length (up_to_zero counts)) 0 (sym is ∙ none)) refl) (append_none place out)

    module _ (total : ℕ) (whole : total ≡ slot_count (open? slots)) {place at : ℕ} {old mid : List ℕ} (a : Appended (joined (slot_line slots) n) place old mid at) where
      -- what the function that writes the whole's line asks
      pub total_asks : Room place board_lines_most old → Room at (length (total_line total)) mid × (total < decimal_end)
      total_asks room =
          let small : total < decimal_end = rw whole (total_small slots) in
          (room_after room a (whole_most slots n total calls_most small), small)

      pub board_appended : (n ≡ 0 → ⊥) → {r : ℕ} {new : List ℕ} → Appended (total_line total) at mid new r → Appended (counted_lines counts slots) place old new r
      unfolding counted_lines
      board_appended some b =
          append_same
          (rw (ne_eqb (length (up_to_zero counts)) 0 (λ e. some (is ∙ e)), whole, is) refl)
          (append_more a b)

joined_or_none : (b : Bool) (xs ys : List ℕ) (most : ℕ) → length xs + length ys ≤ most → length (cond b [] (xs ++ ys)) ≤ most
joined_or_none true xs ys most h = omega arith
joined_or_none false xs ys most h = omega (arith, length-append xs ys)

board_bytes_most : (counts slots : List ℕ) → length counts ≡ 32 → length (counted_lines counts slots) ≤ board_lines_most
unfolding counted_lines
board_bytes_most counts slots size =
    let n = length (up_to_zero counts) in
    let total = slot_count (open? slots) in
    joined_or_none (eqb n 0) (joined (slot_line slots) n) (total_line total) board_lines_most
    (whole_most slots n total (calls_most counts size n refl) (total_small slots))

-- BEFORE THE FIRST ROUND
pub reached_start : (input : List ℕ) (p : Progress) (s : MarkedState) (out : List ℕ) → p.read ≡ 0 → p.written ≡ 0 → RepresentsMarked fresh s → Reached input p s out out
unfolding file_lines
reached_start input p s out read written rep =
    record {
      ledger = fresh;
      shape = shape_fresh;
      represents = rep;
      lines = [];
      appended = rw written (append_none 0 out);
      short = omega arith;
      inside = omega arith;
      most = length input;
      enough = omega arith;
      all = rw read refl;
    }

-- a round may be taken
pub reached_held : {input : List ℕ} {p : Progress} {s : MarkedState} {old new : List ℕ} → Reached input p s old new → Held s
reached_held r = record { ledger = r.ledger; shape = r.shape; represents = r.represents }

-- ONE ROUND MORE
module _ (input : List ℕ) (p q : Progress) (before after : MarkedState) (old mid new : List ℕ) (r : Reached input p before old mid) (further : p.read < length input)
    (t : Advanced (read_at input p.read) (length input) p before mid q after new) where
  pub reads_on : p.read < q.read
  reads_on = omega (arith, t.read, (advance_further input p.read further).0)

  pub reached_advance : Reached input q after old new
  reached_advance = go r.most r.enough r.all
    where
      d : Decoded
      d = read_at input p.read

      go : (n : ℕ) → length input ≤ p.read + n → r.lines ++ lines_from r.ledger (reads_from n input p.read) ≡ file_lines input → Reached input q after old new
      go zero enough all = absurd (omega arith)
      go (suc n) enough all =
          record {
            ledger = ledger_next r.ledger d;
            shape = advance_shape r.ledger input p.read r.shape;
            represents = t.represents r.ledger r.shape r.represents;
            lines = r.lines ++ line_of r.ledger d;
            appended = append_more r.appended (t.line r.ledger r.shape r.represents);
            short = omega (arith, r.short, t.short, reads_on);
            inside = omega (arith, t.read, (advance_further input p.read further).1);
            most = n;
            enough = omega (arith, reads_on);
            all = append_assoc r.lines (line_of r.ledger d) (lines_from (ledger_next r.ledger d) (reads_from n input q.read))
                ∙ ap (λ (k : ℕ). r.lines ++ (line_of r.ledger d ++ lines_from (ledger_next r.ledger d) (reads_from n input k))) t.read
                ∙ ap (λ (l : List ℕ). r.lines ++ l) (sym (advance_lines r.ledger input n d))
                ∙ all;
          }

-- WHERE A BUFFER WITH ROOM FOR THE LONGEST SHEET was lent
module _ (input : List ℕ) (p : Progress) (s : MarkedState) (old mid : List ℕ) (r : Reached input p s old mid) (fits : Fits input old) where
  -- there is room for the line of a round, and for the lines of the board
  pub advance_room : p.read < length input → Room p.written line_most mid
  advance_room further = record { fits = omega (arith, r.appended.size, r.short, fits.input_fits, fits.room) }

  pub board_room : Room p.written board_lines_most mid
  board_room = record { fits = omega (arith, r.appended.size, r.short, r.inside, fits.input_fits, fits.room) }

  -- after the last round, with the lines of the board, it is all lines
  pub reached_end : length input ≤ p.read → (new : List ℕ) (n : ℕ) → Appended (counted_lines s.state.value.heads.counts s.state.slots) p.written mid new n
      → Lined (file_lines input) old new n
  unfolding counted_lines
  reached_end last new n a =
      record {
        appended = append_same lines (append_more r.appended a);
        most = omega (arith, a.place, r.short, r.inside, fits.input_fits, board_bytes_most s.state.value.heads.counts s.state.slots r.represents.state.stored.headed.counts_size);
      }
    where
      lines : r.lines ++ counted_lines s.state.value.heads.counts s.state.slots ≡ file_lines input
      lines =
          ap (λ (l : List ℕ). r.lines ++ l) (counted_lines_lem r.ledger s.state r.shape.board r.represents.state)
          ∙ ap (λ (ds : List Decoded). r.lines ++ lines_from r.ledger ds) (sym (reads_end r.most input p.read last))
          ∙ r.all
