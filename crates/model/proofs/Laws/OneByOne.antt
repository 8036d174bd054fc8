-- A GAP RULE CAN BE SENT ONE BY ONE: its head by kind 2 and its rows by kind 3, none of which is refused, leave what kind 6 leaves. Assumes nothing.
use Rattle.std.specs.Prelude.{◌≡◌, refl, Bool, false, List, [], ◌∷◌, ◌++◌, map, ◌≢◌, ℕ, ◌*◌, ◌<◌, ◌≤◌, length, get_or, T, eqb, ltb, leb}
use Rattle.std.proofs.Common.{sym, ap, subst, ◌∙◌, append-nil, append_assoc, arith, length-append, eqb→eq, ltb-false}
use Rattle.std.proofs.Math.Option.{some}
use Rattle.std.proofs.Math.ListN.{get_or-append}
use Rattle.std.proofs.Math.Seq.{get_or-append_seam}
use Rattle.std.proofs.lemmas.Bool.{lt-leb}
use Rattle.model.specs.declared.command.GapRule.{GapRule}
use Rattle.model.specs.declared.command.Command.TheVariants as kind
use Rattle.model.specs.declared.command.Read.{Read}
use Rattle.model.specs.declared.command.Read.TheVariants as found
use Rattle.model.specs.Tests.{some?, every?}
use Rattle.model.specs.Commands.{read_at}
use Rattle.model.specs.Ledger.{Ledger, Member, no_board?, bad_number?, lent_conditions, kind_conditions, form_conditions, own_conditions, refusal, read_effect, obey, step, step_by, run, NoneRefused, lengths, member}
use Rattle.model.specs.Gaps.{pair_test, rule_of_gap}
use Rattle.model.specs.Board.{cancelled_on?}
use Rattle.model.specs.Samples.{head_bytes, row_bytes}
use Rattle.model.proofs.Laws.Tests.{or_false, not→, some→, every→}
use Rattle.model.proofs.Laws.Refusals.{none_holds, rest_passes}
use Rattle.model.proofs.Laws.Gaps.{GapRow, gap_row, rows_apart}
use Rattle.layout.specs.Sizes.{CommandLent}
use Rattle.model.specs.Refusals.{first_of}
use Rattle.model.specs.Numbers as refused

-- WHAT IS ASKED of the form by the board: what kind 2 asks of its head, and room for its rows
pub record Sendable (L : Ledger) (f : GapRule) : Type 0 where
  pub board : no_board? L ≡ false
  pub number : bad_number? f.number ≡ false
  pub first_on : leb (length L.board.counts) f.first ≡ false
  pub second_on : leb (length L.board.counts) f.second ≡ false
  pub first_live : cancelled_on? L.board f.first ≡ false
  pub second_live : cancelled_on? L.board f.second ≡ false
  pub apart : eqb f.first f.second ≡ false
  pub few : length (rule_of_gap L.board.counts f).rows ≤ 64

-- THESE COMMANDS LEAVE THAT LEDGER, none of them refused
pub record Sent (L : Ledger) (ms : List Member) (L' : Ledger) : Type 0 where
  pub none_refused : NoneRefused L ms
  pub left : run L ms ≡ L'

-- one more before them
sent_first : (L K L' : Ledger) (m : Member) (ms : List Member) → refusal L m.lent m.bytes ≡ 0 → step_by L m ≡ K → Sent K ms L' → Sent L (m ∷ ms) L'
sent_first L K L' m ms accepted stepped rest =
    record {
      none_refused = (accepted, subst (λ (J : Ledger). NoneRefused J ms) (sym stepped) rest.none_refused);
      left = ap (λ (J : Ledger). run J ms) stepped ∙ rest.left;
    }

-- a row sent by kind 3
abbrev pub sent : List ℕ → Member
sent row = member (row_bytes row)

module _ (L : Ledger) (f : GapRule) where
  -- the ledger with the form's head and these rows as its draft
  abbrev pub headed_with : List (List ℕ) → Ledger
  headed_with rows = record { board = L.board; draft = some (record { number = f.number; rule = record { scope = f.first ∷ f.second ∷ []; rows = rows } }); marks = L.marks }

  abbrev n : ℕ
  n = get_or L.board.counts f.first 0

  abbrev m : ℕ
  m = get_or L.board.counts f.second 0

  abbrev head : Member
  head = member (head_bytes f.number (f.first ∷ f.second ∷ []))

  head_accepted : Sendable L f → refusal L lengths head.bytes ≡ 0
  head_accepted s = rw (s.board, s.number, s.first_on, s.second_on, s.first_live, s.second_live, s.apart) refl

  head_sent : Sendable L f → step_by L head ≡ headed_with []
  head_sent s = rw (s.board, s.number, s.first_on, s.second_on, s.first_live, s.second_live, s.apart) refl

  -- a row of two slots, one of each call, that is not among the others
  module _ (done : List (List ℕ)) (a b : ℕ) (there : no_board? L ≡ false) (room : length done < 64) (la : a < n) (lb : b < m)
      (new : some? (length done) (λ v. every? 2 (λ k. eqb (get_or (get_or done v []) k 255) (get_or (a ∷ b ∷ 255 ∷ 255 ∷ []) k 255))) ≡ false) where
    pair_accepted : refusal (headed_with done) lengths (row_bytes (a ∷ b ∷ [])) ≡ 0
    pair_accepted = rw (there, lt-leb 64 (length done) room, lt-leb n a la, lt-leb m b lb, new) refl

    pair_sent : step (headed_with done) lengths (row_bytes (a ∷ b ∷ [])) ≡ headed_with (done ++ ((a ∷ b ∷ []) ∷ []))
    pair_sent = rw (there, lt-leb 64 (length done) room, lt-leb n a la, lt-leb m b lb, new) refl

  -- ROWS THAT CAN BE SENT: each of two slots, one of each call, no two the same, and no more than a rule has room for
  pub record SendableRows (rows : List (List ℕ)) : Type 0 where
    pub each : (w : ℕ) → w < length rows → GapRow f.form f.gap n m (get_or rows w [])
    pub apart : (v w : ℕ) → v < w → w < length rows → get_or rows v [] ≢ get_or rows w []
    pub few : length rows ≤ 64

  -- the row behind the others is not among them
  not_among : (done rest : List (List ℕ)) (x : List ℕ) (a b : ℕ) → SendableRows (done ++ (x ∷ rest)) → x ≡ a ∷ b ∷ []
      → some? (length done) (λ v. every? 2 (λ k. eqb (get_or (get_or done v []) k 255) (get_or (a ∷ b ∷ 255 ∷ 255 ∷ []) k 255))) ≡ false
  not_among done rest x a b rows is = not→ (some? (length done) among?) (λ t. same (some→ (length done) among? t))
    where
      alike? : ℕ → ℕ → Bool
      alike? v k = eqb (get_or (get_or done v []) k 255) (get_or (a ∷ b ∷ 255 ∷ 255 ∷ []) k 255)

      among? : ℕ → Bool
      among? v = every? 2 (alike? v)

      longer : length done < length (done ++ (x ∷ rest))
      longer = omega (arith, length-append done (x ∷ rest))

      same : (v : ℕ) × (v < length done) × T (among? v) → ⊥
      same found =
          let v = found.0 in
          let lv = found.1 in
          let old = get_or-append done (x ∷ rest) [] v lv in
          let row = rows.each v (omega (arith, longer)) in
          let is_row : get_or done v [] ≡ row.first ∷ row.second ∷ [] = sym old ∙ row.is in
          let e : row.first ≡ a = sym (ap (λ (l : List ℕ). get_or l 0 255) is_row) ∙ eqb→eq (get_or (get_or done v []) 0 255) a (every→ 2 (alike? v) found.2 0 (omega arith)) in
          let e' : row.second ≡ b = sym (ap (λ (l : List ℕ). get_or l 1 255) is_row) ∙ eqb→eq (get_or (get_or done v []) 1 255) b (every→ 2 (alike? v) found.2 1 (omega arith)) in
          rows.apart v (length done) lv longer
          (row.is ∙ ap (λ (c : ℕ). c ∷ row.second ∷ []) e ∙ ap (λ (c : ℕ). a ∷ c ∷ []) e' ∙ sym is ∙ sym (get_or-append_seam done x rest []))

  -- THE ROWS ARE TAKEN one after the other
  rows_sent : (there : no_board? L ≡ false) (done rest : List (List ℕ)) → SendableRows (done ++ rest) → Sent (headed_with done) (map sent rest) (headed_with (done ++ rest))
  rows_sent there done [] rows = record { none_refused = tt; left = ap headed_with (sym (append-nil done)) }
  rows_sent there done (x ∷ rest) rows =
      sent_first (headed_with done) (headed_with (done ++ (x ∷ []))) (headed_with (done ++ (x ∷ rest))) (sent x) (map sent rest)
      (rw is (pair_accepted done row.first row.second there room row.first_on row.second_on new))
      (rw is (pair_sent done row.first row.second there room row.first_on row.second_on new))
      (subst (λ (l : List (List ℕ)). Sent (headed_with (done ++ (x ∷ []))) (map sent rest) (headed_with l)) (append_assoc done (x ∷ []) rest)
      (rows_sent there (done ++ (x ∷ [])) rest (subst (λ (l : List (List ℕ)). SendableRows l) (sym (append_assoc done (x ∷ []) rest)) rows)))
    where
      longer : length done < length (done ++ (x ∷ rest))
      longer = omega (arith, length-append done (x ∷ rest))

      row : GapRow f.form f.gap n m (get_or (done ++ (x ∷ rest)) (length done) [])
      row = rows.each (length done) longer

      is : x ≡ row.first ∷ row.second ∷ []
      is = sym (get_or-append_seam done x rest []) ∙ row.is

      room : length done < 64
      room = omega (arith, longer, rows.few)

      new : some? (length done) (λ v. every? 2 (λ k. eqb (get_or (get_or done v []) k 255) (get_or (row.first ∷ row.second ∷ 255 ∷ 255 ∷ []) k 255))) ≡ false
      new = not_among done rest x row.first row.second rows is

  -- THE COMMANDS ONE BY ONE: the head and then the rows
  abbrev pub one_by_one : List Member
  one_by_one = head ∷ map sent (rule_of_gap L.board.counts f).rows

  -- none is refused, and they leave the form's rule as the draft
  sent_one_by_one : Sendable L f → Sent L one_by_one (headed_with (rule_of_gap L.board.counts f).rows)
  sent_one_by_one s =
      let all = (rule_of_gap L.board.counts f).rows in
      sent_first L (headed_with []) (headed_with all) head (map sent all) (head_accepted s) (head_sent s)
      (rows_sent s.board [] all
      (record {
        each = gap_row f.form f.gap n m;
        apart = rows_apart (32 * n) (pair_test f.form f.gap m);
        few = s.few;
      }))

  -- and kind 6 asks no less than they do
  allowed_sendable : (ns : List ℕ) → first_of (kind_conditions L (kind.Gap f) ns) ≡ 0 → Sendable L f
  allowed_sendable ns e =
      let good = none_holds (kind_conditions L (kind.Gap f) ns) tt e in
      let on = or_false (leb (length L.board.counts) f.first) (leb (length L.board.counts) f.second) (good refused.call_off_board) in
      let live = or_false (cancelled_on? L.board f.first) (cancelled_on? L.board f.second) (good refused.cancelled_call) in
      record {
        board = good refused.no_board;
        number = good refused.bad_number;
        first_on = on.0;
        second_on = on.1;
        first_live = live.0;
        second_live = live.1;
        apart = good refused.call_twice;
        few = ltb-false 64 (length (rule_of_gap L.board.counts f).rows) (good refused.too_many_pairs);
      }

  -- WHERE KIND 6 IS ACCEPTED, whatever it is read from, the head and the rows leave the same ledger, none of them refused
  pub gap_one_by_one : (lent : CommandLent) (bytes : List ℕ) → (read_at bytes 0).read ≡ found.Command (kind.Gap f) → refusal L lent bytes ≡ 0
      → Sent L one_by_one (step L lent bytes)
  gap_one_by_one lent bytes is accepted =
      subst (λ (K : Ledger). Sent L one_by_one K) (sym stepped)
      (sent_one_by_one (allowed_sendable ns (rest_passes (early (found.Command (kind.Gap f))) (kind_conditions L (kind.Gap f) ns) tt own)))
    where
      ns : List ℕ
      ns = (read_at bytes 0).counts

      early : Read → List (Bool × ℕ)
      early r = lent_conditions lent ++ form_conditions r (ltb (read_at bytes 0).next (length bytes))

      own : first_of (early (found.Command (kind.Gap f)) ++ kind_conditions L (kind.Gap f) ns) ≡ 0
      own = ap (λ (r : Read). first_of (early r ++ own_conditions L r ns)) (sym is) ∙ accepted

      stepped : step L lent bytes ≡ headed_with (rule_of_gap L.board.counts f).rows
      stepped = ap (λ (k : ℕ). obey k L (read_at bytes 0).read ns) accepted ∙ ap (λ (r : Read). read_effect L r ns) is
