-- A FILE'S SHEET PRINTS THE TOTAL OF WHAT STANDS after the file's commands (SCOPE 7.11). A command is read from its own bytes as it is read in its place in the file, so the
-- ledger that the sheet goes through is the one that the command entry's list goes through; and on its board the records and the slot bytes give the total that is
-- printed. Assumes nothing.
use Rattle.std.specs.Prelude.{◌≡◌, refl, Bool, true, false, cond, ℕ, zero, suc, ◌+◌, ◌-◌, ◌≤◌, ◌<◌, length, get_or, take, drop, replicate, leb, ltb, eqb}
use Rattle.std.proofs.Common.{sym, subst, ◌∙◌, zero-add, add-zero, suc-add, arith, length-drop, get_or-take, get_or-drop, take-take, drop-drop, length-take-le, leb-true, le-leb, le-ltb, eq-eqb, ne_eqb}
use Rattle.std.proofs.Math.Path.{ap}
use Rattle.std.proofs.Math.Bool.{and-eq-true_iff}
use mathlib.Core.List.{List, [], ◌∷◌, ◌++◌, map, append_assoc, append-nil}
use Rattle.std.proofs.Math.Seq.{take-nil}
use Rattle.std.proofs.lemmas.Bool.{eqb-false, lt-leb}
use Rattle.model.specs.declared.command.Command.{Command}
use Rattle.model.specs.declared.command.Command.TheVariants as kind
use Rattle.model.specs.declared.command.Read.{Read}
use Rattle.model.specs.declared.command.Read.TheVariants as found
use Rattle.model.specs.declared.command.Decoded.{Decoded}
use Rattle.model.specs.Board.{Board}
use Rattle.model.specs.Tests.{up_from}
use Rattle.model.specs.Commands.{is_kind, body_size, head_at, row_at, gap_at, command_at, counts_at, without, read_at}
use Rattle.model.specs.Ledger.{Ledger, fresh, lent_conditions, form_conditions, own_conditions, kind_conditions, obey, step, run, lengths, member}
use Rattle.model.specs.Report.{slot_count, open?}
use Rattle.model.specs.Summary.{open_total, open_sum}
use Rattle.model.specs.declared.refusal.Refusal.{Refusal}
use Rattle.model.specs.declared.refusal.Refusal.TheVariants as refusal_kind
use Rattle.model.specs.Refusals.{number, first_of}
use Rattle.model.specs.Sheet.{end_line, total_line, call_lines, board_lines, file_refusal, read_line, input_most, up_to_refusal, reads_from, lines_from, sheet_of}
use Rattle.layout.specs.Memory.{Whole}
use Rattle.model.specs.Lists.{After}
use Rattle.board.specs.Lists.{board_after}
use Rattle.command_file.specs.Replay.{part_of, commands_by, commands_from, file_commands}
use Rattle.board.specs.Sheet.{Prints, command_lines, ledger_from}
use Rattle.board.specs.Laws.Demands.{total_records, total_bytes}

-- THE LINES OF THE COMMANDS, then those of the board
pub lines_apart : (L : Ledger) (ds : List Decoded) → lines_from L ds ≡ command_lines L ds ++ board_lines (ledger_from L ds).board
lines_apart L [] = refl
lines_apart L (d ∷ ds) =
    let n = file_refusal L d.read d.counts in
    let L' = obey n L d.read d.counts in
    let line = read_line n d.read L.board L'.board in
    ap (λ (l : List ℕ). line ++ l) (lines_apart L' ds) ∙ sym (append_assoc line (command_lines L' ds) (board_lines (ledger_from L' ds).board))

-- BYTES OF A PART: those of the whole, so far on; and of a part's part
part_byte : (n at : ℕ) (s : List ℕ) (j : ℕ) → j < n → get_or (take n (drop at s)) j 0 ≡ get_or s (at + j) 0
part_byte n at s j lj = get_or-take n (drop at s) j 0 lj ∙ get_or-drop at s j 0

drop_take : (m n : ℕ) (s : List ℕ) → drop m (take (m + n) s) ≡ take n (drop m s)
drop_take zero n s = ap (λ (k : ℕ). take k s) (zero-add n)
drop_take (suc m) n [] = ap (drop (suc m)) (take-nil (suc m + n)) ∙ sym (take-nil n)
drop_take (suc m) n (x ∷ xs) = ap (λ (k : ℕ). drop (suc m) (take k (x ∷ xs))) (suc-add m n) ∙ drop_take m n xs

-- A COMMAND OF KIND k WITH ITS BODY AT b, as it is read
abbrev read_of : List ℕ → ℕ → ℕ → Decoded
read_of s k b = record { read = found.Command (command_at s k b); counts = counts_at s k b; next = b + body_size k }

-- is read where the kind stands and all of the body is there,
read_there : (s : List ℕ) (at k : ℕ) → get_or s at 0 ≡ k → is_kind k ≡ true → at + 1 + body_size k ≤ length s → read_at s at ≡ read_of s k (at + 1)
read_there s at k is known fits =
    rw is (go (leb (length s) at) (is_kind k) (leb (at + 1 + body_size k) (length s)) (lt-leb (length s) at (omega arith)) known (le-leb (at + 1 + body_size k) (length s) fits))
  where
    go : (a b c : Bool) → a ≡ false → b ≡ true → c ≡ true
        → cond a (without found.End at)
        (cond b (cond c (read_of s k (at + 1)) (without (found.Refused k refusal_kind.BodyLength) at)) (without (found.Refused k refusal_kind.UnknownKind) at))
        ≡ read_of s k (at + 1)
    go a b c x y z = rw (x, y, z) refl

-- and nowhere else
record ReadWhole (s : List ℕ) (at k : ℕ) : Type 0 where
  pub known : is_kind k ≡ true
  pub fits : at + 1 + body_size k ≤ length s
  pub is : read_at s at ≡ read_of s k (at + 1)

read_whole : (s : List ℕ) (at : ℕ) (c : Command) → (read_at s at).read ≡ found.Command c → ReadWhole s at (get_or s at 0)
read_whole s at c = go (leb (length s) at) (is_kind (get_or s at 0)) (leb (at + 1 + body_size (get_or s at 0)) (length s)) refl refl
  where
    go : (a b k : Bool) → is_kind (get_or s at 0) ≡ b → leb (at + 1 + body_size (get_or s at 0)) (length s) ≡ k
        → (cond a (without found.End at)
        (cond b (cond k (read_of s (get_or s at 0) (at + 1)) (without (found.Refused (get_or s at 0) refusal_kind.BodyLength) at))
        (without (found.Refused (get_or s at 0) refusal_kind.UnknownKind) at))).read ≡ found.Command c
        → ReadWhole s at (get_or s at 0)
    go true b k known f e = let z : ◌≡◌ {A = ℕ} 0 1 = cc in absurd (omega arith)
    go false true true known f e =
        let fits = leb-true (at + 1 + body_size (get_or s at 0)) (length s) f in
        record { known = known; fits = fits; is = read_there s at (get_or s at 0) refl known fits }
    go false true false known f e = let z : ◌≡◌ {A = ℕ} 0 1 = cc in absurd (omega arith)
    go false false k known f e = let z : ◌≡◌ {A = ℕ} 0 1 = cc in absurd (omega arith)

-- TWO BODIES OF ONE KIND with the same bytes are one command
four_passed : (k : ℕ) → 1 ≤ k → (k ≡ 1 → ⊥) → (k ≡ 2 → ⊥) → (k ≡ 3 → ⊥) → (k ≡ 4 → ⊥) → 5 ≤ k
four_passed k least a b c d = omega arith

nine_passed : (k : ℕ) → 5 ≤ k → k ≤ 9 → (k ≡ 5 → ⊥) → (k ≡ 6 → ⊥) → (k ≡ 7 → ⊥) → (k ≡ 8 → ⊥) → (k ≡ 9 → ⊥) → ⊥
nine_passed k least most a b c d e = omega arith

one_of_kinds : (k : ℕ) → is_kind k ≡ true → eqb k 1 ≡ false → eqb k 2 ≡ false → eqb k 3 ≡ false → eqb k 4 ≡ false → eqb k 5 ≡ false → eqb k 6 ≡ false → eqb k 7 ≡ false
    → eqb k 8 ≡ false → eqb k 9 ≡ false → ⊥
one_of_kinds k known a b c d e f g h i =
    let both = (and-eq-true_iff (leb 1 k) (leb k 9)).0 known in
    let low = four_passed k (leb-true 1 k both.0) (eqb-false k 1 a) (eqb-false k 2 b) (eqb-false k 3 c) (eqb-false k 4 d) in
    nine_passed k low (leb-true k 9 both.1) (eqb-false k 5 e) (eqb-false k 6 f) (eqb-false k 7 g) (eqb-false k 8 h) (eqb-false k 9 i)

command_alike : (s t : List ℕ) (k b b' : ℕ) → is_kind k ≡ true → ((j : ℕ) → j < body_size k → get_or s (b + j) 0 ≡ get_or t (b' + j) 0) → command_at s k b ≡ command_at t k b'
command_alike s t k b b' known =
    go (eqb k 1) (eqb k 2) (eqb k 3) (eqb k 4) (eqb k 5) (eqb k 6) (eqb k 7) (eqb k 8) (eqb k 9) (one_of_kinds k known)
  where
    first : get_or s (b + 0) 0 ≡ get_or t (b' + 0) 0 → get_or s b 0 ≡ get_or t b' 0
    first e = rw (add-zero b, add-zero b') at e

    go : (u v w x y z m n i : Bool)
        → (u ≡ false → v ≡ false → w ≡ false → x ≡ false → y ≡ false → z ≡ false → m ≡ false → n ≡ false → i ≡ false → ⊥)
        → ((j : ℕ) → j < cond u 32 (cond v 6 (cond w 4 (cond y 1 (cond z 5 (cond m 1 (cond n 1 (cond i 1 0))))))) → get_or s (b + j) 0 ≡ get_or t (b' + j) 0)
        → cond u kind.Board
        (cond v (kind.Head (head_at s b)) (cond w (kind.Row (row_at s b)) (cond x kind.Post (cond y (kind.Retract (get_or s b 0))
        (cond z (kind.Gap (gap_at s b)) (cond m (kind.Keep (get_or s b 0)) (cond n (kind.Back (get_or s b 0)) (kind.Cancel (get_or s b 0)))))))))
        ≡ cond u kind.Board
        (cond v (kind.Head (head_at t b')) (cond w (kind.Row (row_at t b')) (cond x kind.Post (cond y (kind.Retract (get_or t b' 0))
        (cond z (kind.Gap (gap_at t b')) (cond m (kind.Keep (get_or t b' 0)) (cond n (kind.Back (get_or t b' 0)) (kind.Cancel (get_or t b' 0)))))))))
    go true v w x y z m n i last same = refl
    go false true w x y z m n i last same =
        rw (first (same 0 (omega arith)), same 1 (omega arith), same 2 (omega arith), same 3 (omega arith), same 4 (omega arith), same 5 (omega arith)) refl
    go false false true x y z m n i last same = rw (first (same 0 (omega arith)), same 1 (omega arith), same 2 (omega arith), same 3 (omega arith)) refl
    go false false false true y z m n i last same = refl
    go false false false false true z m n i last same = ap kind.Retract (first (same 0 (omega arith)))
    go false false false false false true m n i last same =
        rw (first (same 0 (omega arith)), same 1 (omega arith), same 2 (omega arith), same 3 (omega arith), same 4 (omega arith)) refl
    go false false false false false false true n i last same = ap kind.Keep (first (same 0 (omega arith)))
    go false false false false false false false true i last same = ap kind.Back (first (same 0 (omega arith)))
    go false false false false false false false false true last same = ap kind.Cancel (first (same 0 (omega arith)))
    go false false false false false false false false false last same = absurd (last refl refl refl refl refl refl refl refl refl)

-- bytes that are a command with its counts, and nothing more
pub record Alone (bytes : List ℕ) (c : Command) (counts : List ℕ) : Type 0 where
  pub read : (read_at bytes 0).read ≡ found.Command c
  pub counts_are : (read_at bytes 0).counts ≡ counts
  pub none_left : ltb (read_at bytes 0).next (length bytes) ≡ false

-- A PART THAT IS A COMMAND'S has its kind, its body's bytes and its counts
module _ (s : List ℕ) (at k : ℕ) (is : get_or s at 0 ≡ k) (known : is_kind k ≡ true) (fits : at + 1 + body_size k ≤ length s) where
  abbrev command_bytes : List ℕ
  command_bytes = take (1 + body_size k) (drop at s)

  own_length : length command_bytes ≡ 1 + body_size k
  own_length = length-take-le (1 + body_size k) (drop at s) (omega (arith, length-drop at s))

  own_command : command_at command_bytes k 1 ≡ command_at s k (at + 1)
  own_command =
      command_alike command_bytes s k 1 (at + 1) known
      (λ j lj. part_byte (1 + body_size k) at s (1 + j) (omega arith) ∙ ap (λ (i : ℕ). get_or s i 0) (let e : at + (1 + j) ≡ at + 1 + j = omega arith in e))

  own_counts : counts_at command_bytes k 1 ≡ counts_at s k (at + 1)
  own_counts = rw (drop_take 1 (body_size k) (drop at s), drop-drop 1 at s) (go (eqb k 1) (body_size k) (λ e. rw e (omega arith)))
    where
      go : (b : Bool) (n : ℕ) → (b ≡ true → 32 ≤ n)
          → cond b (take 32 (take n (drop (at + 1) s))) (replicate 32 0) ≡ cond b (take 32 (drop (at + 1) s)) (replicate 32 0)
      go true n most = take-take 32 n (drop (at + 1) s) (most refl)
      go false n most = refl

  own_read : read_at command_bytes 0 ≡ read_of command_bytes k 1
  own_read =
      read_there command_bytes 0 k (part_byte (1 + body_size k) at s 0 (omega arith) ∙ ap (λ (i : ℕ). get_or s i 0) (add-zero at) ∙ is) known (omega (arith, own_length))

  own_alone : Alone command_bytes (command_at s k (at + 1)) (counts_at s k (at + 1))
  own_alone =
      record {
        read = ap (λ (d : Decoded). d.read) own_read ∙ ap found.Command own_command;
        counts_are = ap (λ (d : Decoded). d.counts) own_read ∙ own_counts;
        none_left = le-ltb (read_at command_bytes 0).next (length command_bytes) (omega (arith, own_length, ap (λ (d : Decoded). d.next) own_read));
      }

-- SO A COMMAND THAT IS READ AT A PLACE OF A FILE is read alike from its own bytes, and none of them is left over
pub part_read : (s : List ℕ) (at : ℕ) (c : Command) → (read_at s at).read ≡ found.Command c → Alone (part_of s at (read_at s at).next) c (read_at s at).counts
part_read s at c e =
    let counts = ap (λ (d : Decoded). d.counts) w.is in
    rw (same, counts) (subst (λ (x : Command). Alone (take (1 + body_size k) (drop at s)) x (counts_at s k (at + 1))) command (own_alone s at k refl w.known w.fits))
  where
    k : ℕ
    k = get_or s at 0

    w : ReadWhole s at k
    w = read_whole s at c e

    command : command_at s k (at + 1) ≡ c
    command = let z : found.Command (command_at s k (at + 1)) ≡ found.Command c = ap (λ (d : Decoded). d.read) (sym w.is) ∙ e in cc

    same : part_of s at (read_at s at).next ≡ take (1 + body_size k) (drop at s)
    same =
        ap (λ (d : Decoded). part_of s at d.next) w.is
        ∙ ap (λ (n : ℕ). take n (drop at s)) (let n : at + 1 + body_size k - at ≡ 1 + body_size k = omega arith in n)

-- ONE STEP OF THE LEDGER by such bytes: neither the lengths nor the form refuse it
alone_step : (L : Ledger) (bytes : List ℕ) (c : Command) (counts : List ℕ) → Alone bytes c counts
    → step L lengths bytes ≡ obey (first_of (kind_conditions L c counts)) L (found.Command c) counts
alone_step L bytes c counts a =
    go (read_at bytes 0).read (read_at bytes 0).counts (ltb (read_at bytes 0).next (length bytes)) a.read a.counts_are a.none_left
  where
    go : (r : Read) (ns : List ℕ) (left : Bool) → r ≡ found.Command c → ns ≡ counts → left ≡ false
        → obey (first_of ((lent_conditions lengths ++ form_conditions r left) ++ own_conditions L r ns)) L r ns
        ≡ obey (first_of (kind_conditions L c counts)) L (found.Command c) counts
    go r ns left x y z = rw (x, y, z) refl

-- a 3 or 4 of a file does nothing
refused_nothing : (L : Ledger) (k : ℕ) (f : Refusal) (ns : List ℕ) → obey (number f) L (found.Refused k f) ns ≡ L
refused_nothing L k f ns = go (number f)
  where
    go : (m : ℕ) → obey m L (found.Refused k f) ns ≡ L
    go zero = refl
    go (suc m) = refl

-- THE LEDGER AFTER WHAT WAS READ of a file is the ledger after the file's commands
pub ledger_of_file : (n : ℕ) (s : List ℕ) (at : ℕ) (L : Ledger) → ledger_from L (reads_from n s at) ≡ run L (map member (commands_from n s at))
ledger_of_file zero s at L = refl
ledger_of_file (suc n) s at L =
    go (read_at s at) (part_of s at (read_at s at).next) (reads_from n s (read_at s at).next) (commands_from n s (read_at s at).next) (part_read s at)
    (ledger_of_file n s (read_at s at).next) (read_at s at).read refl
  where
    go : (d : Decoded) (part : List ℕ) (ds : List Decoded) (parts : List (List ℕ)) → ((c : Command) → d.read ≡ found.Command c → Alone part c d.counts)
        → ((L : Ledger) → ledger_from L ds ≡ run L (map member parts))
        → (r : Read) → d.read ≡ r → ledger_from L (up_to_refusal d r ds) ≡ run L (map member (commands_by r part parts))
    go d part ds parts alone rest (found.Command c) e =
        rw e (rest (obey (first_of (kind_conditions L c d.counts)) L (found.Command c) d.counts))
        ∙ ap (λ (K : Ledger). run K (map member parts)) (sym (alone_step L part c d.counts (alone c e)))
    go d part ds parts alone rest (found.Refused k m) e = rw e (refused_nothing L k m d.counts)
    go d part ds parts alone rest found.End e = refl

-- the board's lines, without a board and with one
lines_none : (B : Board) → length B.counts ≡ 0 → board_lines B ≡ []
lines_none B none = rw (eq-eqb (length B.counts) 0 none) refl

lines_there : (B : Board) → (length B.counts ≡ 0 → ⊥)
    → board_lines B ≡ call_lines B (up_from 0 (length B.counts)) ++ total_line (open_total B)
lines_there B there = rw (ne_eqb (length B.counts) 0 there) refl

-- THE SHEET OF A FILE THAT IS READ: the lines of its commands, those of the board after them, and `end`
module _ (input : List ℕ) (short : length input ≤ input_most) where
  abbrev first_lines : List ℕ
  first_lines = command_lines fresh (reads_from (length input) input 0)

  abbrev B : Board
  B = board_after (map member (file_commands input))

  sheet_lines : sheet_of input ≡ first_lines ++ board_lines B ++ end_line
  unfolding file_commands
  sheet_lines =
      let ds = reads_from (length input) input 0 in
      rw (le-ltb input_most (length input) short)
      (ap (λ (l : List ℕ). l ++ end_line) (lines_apart fresh ds)
      ∙ ap (λ (K : Ledger). first_lines ++ board_lines K.board ++ end_line) (ledger_of_file (length input) input 0 fresh))

  -- where there is no board, no total is printed
  pub no_board_no_total : length B.counts ≡ 0 → sheet_of input ≡ first_lines ++ end_line
  no_board_no_total none = sheet_lines ∙ ap (λ (l : List ℕ). l ++ end_line) (ap (λ (l : List ℕ). first_lines ++ l) (lines_none B none) ∙ append-nil first_lines)

  -- where there is one, its total is printed,
  pub prints_open_total : (length B.counts ≡ 0 → ⊥) → Prints input B (open_total B)
  prints_open_total there =
      let calls = call_lines B (up_from 0 (length B.counts)) in
      record {
        sheet = sheet_lines
            ∙ ap (λ (l : List ℕ). l ++ end_line)
            (ap (λ (l : List ℕ). first_lines ++ l) (lines_there B there) ∙ sym (append_assoc first_lines calls (total_line (open_total B))));
      }

  -- which the records and the slot bytes give
  pub printed_total : {first : List ℕ} (s : Whole) → After first (map member (file_commands input)) s → (length B.counts ≡ 0 → ⊥)
      → Prints input B (open_sum s.table) × Prints input B (slot_count (open? s.marked.state.slots))
  printed_total s after there =
      let ms = map member (file_commands input) in (
        subst (λ (n : ℕ). Prints input B n) (total_records ms s after) (prints_open_total there),
        subst (λ (n : ℕ). Prints input B n) (total_bytes ms s after) (prints_open_total there),
      )
