-- THE STARRED SAMPLE BOARDS P1 TO P12, G1 TO G7, M1 TO M8 AND C1 TO C11 (SCOPE 8.1 to 8.12, 8.16 to 8.41), as commands' bytes, with what is to come of the last command
-- of each, and the sheets of P4 and C11.
use Rattle.std.specs.Prelude.{List, [], ◌∷◌, ◌++◌, map, ◌↔◌, ◌≡◌, ℕ, ◌-◌, ◌/◌, ◌%◌, length, take, replicate, T}
use Rattle.std.proofs.Math.Option.{Option, none, some}
use Rattle.model.specs.declared.command.GapRule.{GapRule}
use Rattle.model.specs.declared.command.Read.{Read}
use Rattle.model.specs.declared.command.Read.TheVariants as found
use Rattle.model.specs.Board.{Board, Viable}
use Rattle.model.specs.Tests.{up_from}
use Rattle.model.specs.Filter.{in?, open_of}
use Rattle.model.specs.Commands.{read_at}
use Rattle.model.specs.Ledger.{Ledger, fresh, refusal, step, run, lengths, member}
use Rattle.model.specs.Report.{struck_by, reopened_by}
use Rattle.model.specs.Sheet.{sheet_of}

-- a command's bytes: fields to the kind's length, the rest 0 or 255
abbrev pub board_bytes : List ℕ → List ℕ
board_bytes counts = 1 ∷ counts ++ replicate (32 - length counts) 0

abbrev pub spared : List ℕ → List ℕ
spared fields = fields ++ replicate (4 - length fields) 255

abbrev pub head_bytes : ℕ → List ℕ → List ℕ
head_bytes number scope = 2 ∷ number ∷ length scope ∷ spared scope

abbrev pub row_bytes : List ℕ → List ℕ
row_bytes slots = 3 ∷ spared slots

abbrev pub post_bytes : List ℕ
post_bytes = 4 ∷ []

abbrev pub retract_bytes : ℕ → List ℕ
retract_bytes number = 5 ∷ number ∷ []

abbrev pub gap_bytes : GapRule → List ℕ
gap_bytes f = 6 ∷ f.form ∷ f.number ∷ f.first ∷ f.second ∷ f.gap ∷ []

abbrev pub keep_bytes : ℕ → List ℕ
keep_bytes name = 7 ∷ name ∷ []

abbrev pub back_bytes : ℕ → List ℕ
back_bytes name = 8 ∷ name ∷ []

abbrev pub cancel_bytes : ℕ → List ℕ
cancel_bytes call = 9 ∷ call ∷ []

abbrev pub ledger_of : List (List ℕ) → Ledger
ledger_of commands = run fresh (map member commands)

-- what is to come of a sample's last command: its refusal or 0, S, R, and the open slots of each call after it; and the sheet of all its commands, where the
-- scope gives it
pub record Outcome : Type 0 where
  pub refused : ℕ
  pub struck : ℕ
  pub reopened : ℕ
  pub left : List (List ℕ)
  pub sheet : Option (List ℕ)

pub record Sample : Type 0 where
  pub before : List (List ℕ)
  pub last : List ℕ
  pub outcome : Outcome

-- S and R of what was read
abbrev pub struck_by_read : Read → Board → Board → ℕ
struck_by_read (found.Command c) B B' = struck_by c B B'
struck_by_read (found.Refused k e) B B' = 0
struck_by_read found.End B B' = 0

abbrev pub reopened_by_read : Read → Board → Board → ℕ
reopened_by_read (found.Command c) B B' = reopened_by c B B'
reopened_by_read (found.Refused k e) B B' = 0
reopened_by_read found.End B B' = 0

-- all bytes of a sample's commands, one after another; and their sheet, where one is asked for
abbrev pub flattened : List (List ℕ) → List ℕ
flattened [] = []
flattened (x ∷ xs) = x ++ flattened xs

abbrev pub sheet_for : Option (List ℕ) → List (List ℕ) → Option (List ℕ)
sheet_for none commands = none
sheet_for (some asked) commands = some (sheet_of (flattened commands))

-- what the definitions give
abbrev pub ledger_before : Sample → Ledger
ledger_before x = ledger_of x.before

abbrev pub ledger_last : Sample → Ledger
ledger_last x = step (ledger_before x) lengths x.last

abbrev pub outcome_of : Sample → Outcome
outcome_of x =
    record {
      refused = refusal (ledger_before x) lengths x.last;
      struck = struck_by_read (read_at x.last 0).read (ledger_before x).board (ledger_last x).board;
      reopened = reopened_by_read (read_at x.last 0).read (ledger_before x).board (ledger_last x).board;
      left = open_of (ledger_last x).board;
      sheet = sheet_for x.outcome.sheet (x.before ++ (x.last ∷ []));
    }

-- what is shown of a sample: its outcome, and that its open slots are the viable ones
pub record Right (x : Sample) : Type 0 where
  pub outcome : outcome_of x ≡ x.outcome
  pub viable : (c s : ℕ) → T (in? x.outcome.left c s) ↔ Viable (ledger_last x).board c s

abbrev pub AllRight : List Sample → Type 0
AllRight [] = Unit {0}
AllRight (x ∷ xs) = Right x × AllRight xs

-- P1, P2, P3: counts 3, 3, 2; rule 0 on calls 0, 1; then rule 1 on calls 1, 2; then lift rule 0
abbrev pub p1_before : List (List ℕ)
p1_before =
    board_bytes (3 ∷ 3 ∷ 2 ∷ []) ∷ head_bytes 0 (0 ∷ 1 ∷ []) ∷ row_bytes (0 ∷ 1 ∷ []) ∷ row_bytes (0 ∷ 2 ∷ []) ∷ row_bytes (1 ∷ 2 ∷ []) ∷ []

abbrev pub p2_before : List (List ℕ)
p2_before = p1_before ++ (post_bytes ∷ head_bytes 1 (1 ∷ 2 ∷ []) ∷ row_bytes (1 ∷ 0 ∷ []) ∷ row_bytes (0 ∷ 1 ∷ []) ∷ [])

abbrev pub p3_before : List (List ℕ)
p3_before = p2_before ++ (post_bytes ∷ [])

abbrev pub p1 : Sample
p1 = record { before = p1_before; last = post_bytes; outcome = record { refused = 0; struck = 2; reopened = 0; left = (0 ∷ 1 ∷ []) ∷ (1 ∷ 2 ∷ []) ∷ (0 ∷ 1 ∷ []) ∷ []; sheet = none } }

abbrev pub p2 : Sample
p2 = record { before = p2_before; last = post_bytes; outcome = record { refused = 0; struck = 3; reopened = 0; left = (0 ∷ []) ∷ (1 ∷ []) ∷ (0 ∷ []) ∷ []; sheet = none } }

abbrev pub p3 : Sample
p3 =
    record { before = p3_before; last = retract_bytes 0; outcome = record { refused = 0; struck = 0; reopened = 4; left = (0 ∷ 1 ∷ 2 ∷ []) ∷ (0 ∷ 1 ∷ []) ∷ (0 ∷ 1 ∷ []) ∷ []; sheet = none } }

-- P4: the worked session (SCOPE 7.9), at its second put, its first lift and its second, which is its last command and has its sheet
abbrev pub p4_before : List (List ℕ)
p4_before =
    board_bytes (2 ∷ 2 ∷ []) ∷ head_bytes 0 (0 ∷ 1 ∷ []) ∷ row_bytes (0 ∷ 0 ∷ []) ∷ row_bytes (1 ∷ 1 ∷ []) ∷ post_bytes ∷ head_bytes 5 (0 ∷ []) ∷ row_bytes (0 ∷ []) ∷ []

abbrev pub p4_post : Sample
p4_post = record { before = p4_before; last = post_bytes; outcome = record { refused = 0; struck = 2; reopened = 0; left = (0 ∷ []) ∷ (0 ∷ []) ∷ []; sheet = none } }

abbrev pub p4_retract : Sample
p4_retract =
    record {
      before = p4_before ++ (post_bytes ∷ []);
      last = retract_bytes 5;
      outcome = record { refused = 0; struck = 0; reopened = 2; left = (0 ∷ 1 ∷ []) ∷ (0 ∷ 1 ∷ []) ∷ []; sheet = none };
    }

-- a 1 0 0, a 2 0 0, a 3 0 0, a 3 0 0, a 4 0 0, a 2 0 0, a 3 0 0, a 4 2 0, a 5 0 2, r 5 17, c 0 0 1, c 1 0 1, t 4, end
abbrev pub p4_sheet : List ℕ
p4_sheet =
    97 ∷ 32 ∷ 49 ∷ 32 ∷ 48 ∷ 32 ∷ 48 ∷ 10
    ∷ 97 ∷ 32 ∷ 50 ∷ 32 ∷ 48 ∷ 32 ∷ 48 ∷ 10
    ∷ 97 ∷ 32 ∷ 51 ∷ 32 ∷ 48 ∷ 32 ∷ 48 ∷ 10
    ∷ 97 ∷ 32 ∷ 51 ∷ 32 ∷ 48 ∷ 32 ∷ 48 ∷ 10
    ∷ 97 ∷ 32 ∷ 52 ∷ 32 ∷ 48 ∷ 32 ∷ 48 ∷ 10
    ∷ 97 ∷ 32 ∷ 50 ∷ 32 ∷ 48 ∷ 32 ∷ 48 ∷ 10
    ∷ 97 ∷ 32 ∷ 51 ∷ 32 ∷ 48 ∷ 32 ∷ 48 ∷ 10
    ∷ 97 ∷ 32 ∷ 52 ∷ 32 ∷ 50 ∷ 32 ∷ 48 ∷ 10
    ∷ 97 ∷ 32 ∷ 53 ∷ 32 ∷ 48 ∷ 32 ∷ 50 ∷ 10
    ∷ 114 ∷ 32 ∷ 53 ∷ 32 ∷ 49 ∷ 55 ∷ 10
    ∷ 99 ∷ 32 ∷ 48 ∷ 32 ∷ 48 ∷ 32 ∷ 49 ∷ 10
    ∷ 99 ∷ 32 ∷ 49 ∷ 32 ∷ 48 ∷ 32 ∷ 49 ∷ 10
    ∷ 116 ∷ 32 ∷ 52 ∷ 10
    ∷ 101 ∷ 110 ∷ 100 ∷ 10
    ∷ []

abbrev pub p4_again : Sample
p4_again =
    record {
      before = p4_before ++ (post_bytes ∷ retract_bytes 5 ∷ []);
      last = retract_bytes 5;
      outcome = record { refused = 17; struck = 0; reopened = 0; left = (0 ∷ 1 ∷ []) ∷ (0 ∷ 1 ∷ []) ∷ []; sheet = some p4_sheet };
    }

-- P5, P6: a rule without rows on one of two calls, which nothing joins; it is put, and lifted
abbrev pub p5_before : List (List ℕ)
p5_before = board_bytes (2 ∷ 2 ∷ []) ∷ head_bytes 9 (0 ∷ []) ∷ []

abbrev pub p5 : Sample
p5 = record { before = p5_before; last = post_bytes; outcome = record { refused = 0; struck = 2; reopened = 0; left = [] ∷ (0 ∷ 1 ∷ []) ∷ []; sheet = none } }

abbrev pub p6 : Sample
p6 =
    record {
      before = p5_before ++ (post_bytes ∷ []);
      last = retract_bytes 9;
      outcome = record { refused = 0; struck = 0; reopened = 2; left = (0 ∷ 1 ∷ []) ∷ (0 ∷ 1 ∷ []) ∷ []; sheet = none };
    }

-- P7 to P10: count 32 accepted, 33 refused 5; number 63 accepted, 64 refused 7
abbrev pub p7 : Sample
p7 = record { before = []; last = board_bytes (32 ∷ []); outcome = record { refused = 0; struck = 0; reopened = 0; left = up_from 0 32 ∷ []; sheet = none } }

abbrev pub p8 : Sample
p8 = record { before = []; last = board_bytes (33 ∷ []); outcome = record { refused = 5; struck = 0; reopened = 0; left = []; sheet = none } }

abbrev pub p9 : Sample
p9 = record { before = board_bytes (1 ∷ []) ∷ []; last = head_bytes 63 (0 ∷ []); outcome = record { refused = 0; struck = 0; reopened = 0; left = (0 ∷ []) ∷ []; sheet = none } }

abbrev pub p10 : Sample
p10 = record { before = board_bytes (1 ∷ []) ∷ []; last = head_bytes 64 (0 ∷ []); outcome = record { refused = 7; struck = 0; reopened = 0; left = (0 ∷ []) ∷ []; sheet = none } }

-- P11, P12: the 64th row accepted, the 65th refused 13
abbrev pub wide_rows : ℕ → List (List ℕ)
wide_rows n = board_bytes (9 ∷ 8 ∷ []) ∷ head_bytes 0 (0 ∷ 1 ∷ []) ∷ map (λ i. row_bytes (i / 8 ∷ i % 8 ∷ [])) (up_from 0 n)

abbrev pub p11 : Sample
p11 =
    record { before = wide_rows 63; last = row_bytes (7 ∷ 7 ∷ []); outcome = record { refused = 0; struck = 0; reopened = 0; left = up_from 0 9 ∷ up_from 0 8 ∷ []; sheet = none } }

abbrev pub p12 : Sample
p12 =
    record { before = wide_rows 64; last = row_bytes (8 ∷ 0 ∷ []); outcome = record { refused = 13; struck = 0; reopened = 0; left = up_from 0 9 ∷ up_from 0 8 ∷ []; sheet = none } }

-- G1 TO G7, GAP RULES (SCOPE 8.16 to 8.22) on calls 0 and 1, under number 0. One of each form that is put, the first being P1's, and one that no pair fits
abbrev pub gap_of : ℕ → ℕ → List ℕ
gap_of form gap = gap_bytes (record { form = form; number = 0; first = 0; second = 1; gap = gap })

abbrev pub gap_put : List ℕ → ℕ → ℕ → ℕ → List (List ℕ) → Sample
gap_put counts form gap struck left =
    record {
      before = board_bytes counts ∷ gap_of form gap ∷ [];
      last = post_bytes;
      outcome = record { refused = 0; struck = struck; reopened = 0; left = left; sheet = none };
    }

-- and three that are not put: 64 pairs, 65, and a gap that no two slots have
abbrev pub gap_alone : ℕ → ℕ → ℕ → ℕ → ℕ → Sample
gap_alone n m form gap refusal =
    record {
      before = board_bytes (n ∷ m ∷ []) ∷ [];
      last = gap_of form gap;
      outcome = record { refused = refusal; struck = 0; reopened = 0; left = up_from 0 n ∷ up_from 0 m ∷ []; sheet = none };
    }

abbrev pub gap_samples : List Sample
gap_samples =
    gap_put (3 ∷ 3 ∷ 2 ∷ []) 1 1 2 ((0 ∷ 1 ∷ []) ∷ (1 ∷ 2 ∷ []) ∷ (0 ∷ 1 ∷ []) ∷ [])
    ∷ gap_put (4 ∷ 3 ∷ []) 2 2 1 ((0 ∷ 2 ∷ 3 ∷ []) ∷ (0 ∷ 1 ∷ 2 ∷ []) ∷ [])
    ∷ gap_put (3 ∷ 2 ∷ []) 3 0 1 ((0 ∷ 1 ∷ []) ∷ (0 ∷ 1 ∷ []) ∷ [])
    ∷ gap_put (2 ∷ 2 ∷ []) 1 2 4 ([] ∷ [] ∷ [])
    ∷ gap_alone 8 8 2 0 0
    ∷ gap_alone 10 11 1 0 25
    ∷ gap_alone 2 2 2 32 24
    ∷ []

-- M1 TO M8, MARKED BOARDS (SCOPE 8.23 to 8.30): P1's board is kept under 0, rule 0 lifted, and rule 1 of P2 put. Then commands come of which the last is looked at
abbrev pub marked : List (List ℕ) → List ℕ → ℕ → ℕ → ℕ → List (List ℕ) → Sample
marked then last refusal struck reopened left =
    record {
      before = p1_before
          ++ (post_bytes ∷ keep_bytes 0 ∷ retract_bytes 0 ∷ head_bytes 1 (1 ∷ 2 ∷ []) ∷ row_bytes (1 ∷ 0 ∷ []) ∷ row_bytes (0 ∷ 1 ∷ []) ∷ post_bytes ∷ []) ++ then;
      last = last;
      outcome = record { refused = refusal; struck = struck; reopened = reopened; left = left; sheet = none };
    }

-- what is open of P1, and of rule 1 alone
abbrev pub open_p1 : List (List ℕ)
open_p1 = (0 ∷ 1 ∷ []) ∷ (1 ∷ 2 ∷ []) ∷ (0 ∷ 1 ∷ []) ∷ []

abbrev pub open_alone : List (List ℕ)
open_alone = (0 ∷ 1 ∷ 2 ∷ []) ∷ (0 ∷ 1 ∷ []) ∷ (0 ∷ 1 ∷ []) ∷ []

-- back with two slots struck and one reopened; back again, from the same mark; a name that keeps nothing, and one that no mark has; a kind 1 forgets; a back leaves no
-- draft, and a mark leaves it; and a mark over another
abbrev pub mark_samples : List Sample
mark_samples =
    marked [] (back_bytes 0) 0 2 1 open_p1
    ∷ marked (back_bytes 0 ∷ retract_bytes 0 ∷ []) (back_bytes 0) 0 2 0 open_p1
    ∷ marked [] (back_bytes 1) 27 0 0 open_alone
    ∷ marked [] (keep_bytes 2) 26 0 0 open_alone
    ∷ marked (board_bytes (2 ∷ []) ∷ []) (back_bytes 0) 27 0 0 ((0 ∷ 1 ∷ []) ∷ [])
    ∷ marked (head_bytes 2 (0 ∷ []) ∷ back_bytes 0 ∷ []) post_bytes 12 0 0 open_p1
    ∷ marked (head_bytes 2 (0 ∷ []) ∷ keep_bytes 1 ∷ []) post_bytes 0 3 0 ([] ∷ (0 ∷ 1 ∷ []) ∷ (0 ∷ 1 ∷ []) ∷ [])
    ∷ marked (keep_bytes 0 ∷ retract_bytes 1 ∷ []) (back_bytes 0) 0 1 0 open_alone
    ∷ []

-- C1 TO C11, CANCELLED CALLS (SCOPE 8.31 to 8.41): after P2, of whose three calls two are left or all; and on small boards
abbrev pub after_p2 : List (List ℕ) → List ℕ → ℕ → ℕ → ℕ → List (List ℕ) → Sample
after_p2 then last refusal struck reopened left =
    record { before = p2_before ++ (post_bytes ∷ then); last = last; outcome = record { refused = refusal; struck = struck; reopened = reopened; left = left; sheet = none } }

abbrev pub on_small_board : List (List ℕ) → List ℕ → ℕ → ℕ → List (List ℕ) → Sample
on_small_board before last refusal struck left =
    record { before = before; last = last; outcome = record { refused = refusal; struck = struck; reopened = 0; left = left; sheet = none } }

-- what is open of P2, and what is without its call 1
abbrev pub open_p2 : List (List ℕ)
open_p2 = (0 ∷ []) ∷ (1 ∷ []) ∷ (0 ∷ []) ∷ []

abbrev pub open_without_one : List (List ℕ)
open_without_one = (0 ∷ 1 ∷ []) ∷ [] ∷ (0 ∷ 1 ∷ []) ∷ []

abbrev pub c1 : Sample
c1 = after_p2 [] (cancel_bytes 1) 0 0 2 open_without_one

-- a draft on calls 0 and 1, begun before the cancellation
abbrev pub draft_of_two : List ℕ → List (List ℕ)
draft_of_two counts = board_bytes counts ∷ head_bytes 0 (0 ∷ 1 ∷ []) ∷ []

-- the lines a 1 0 0, a 9 0 0, c 0 0 1, c 1 -, t 2 and end
abbrev pub c11 : Sample
c11 =
    record {
      before = board_bytes (2 ∷ 2 ∷ []) ∷ [];
      last = cancel_bytes 1;
      outcome = record {
        refused = 0;
        struck = 0;
        reopened = 0;
        left = (0 ∷ 1 ∷ []) ∷ [] ∷ [];
        sheet = some
            ((97 ∷ 32 ∷ 49 ∷ 32 ∷ 48 ∷ 32 ∷ 48 ∷ 10 ∷ [])
            ++ (97 ∷ 32 ∷ 57 ∷ 32 ∷ 48 ∷ 32 ∷ 48 ∷ 10 ∷ [])
            ++ (99 ∷ 32 ∷ 48 ∷ 32 ∷ 48 ∷ 32 ∷ 49 ∷ 10 ∷ [])
            ++ (99 ∷ 32 ∷ 49 ∷ 32 ∷ 45 ∷ 10 ∷ [])
            ++ (116 ∷ 32 ∷ 50 ∷ 10 ∷ [])
            ++ (101 ∷ 110 ∷ 100 ∷ 10 ∷ []));
      };
    }

-- two calls that can be cancelled; one twice, one that there is not, and a head on one; a rule without rows on two calls, one of them cancelled, and both; a draft that is
-- lengthened and put; a back to a mark before the cancellation; a gap rule on a cancelled call; and the sheet
abbrev pub cancel_samples : List Sample
cancel_samples =
    c1
    ∷ after_p2 [] (cancel_bytes 0) 0 0 0 ([] ∷ (1 ∷ []) ∷ (0 ∷ []) ∷ [])
    ∷ after_p2 (cancel_bytes 1 ∷ []) (cancel_bytes 1) 28 0 0 open_without_one
    ∷ after_p2 [] (cancel_bytes 3) 18 0 0 open_p2
    ∷ after_p2 (cancel_bytes 1 ∷ []) (head_bytes 2 (0 ∷ 1 ∷ [])) 29 0 0 open_without_one
    ∷ on_small_board (draft_of_two (2 ∷ 2 ∷ []) ++ (cancel_bytes 0 ∷ [])) post_bytes 0 2 ([] ∷ [] ∷ [])
    ∷ on_small_board (draft_of_two (2 ∷ 2 ∷ 1 ∷ []) ++ (cancel_bytes 0 ∷ cancel_bytes 1 ∷ [])) post_bytes 0 0 ([] ∷ [] ∷ (0 ∷ []) ∷ [])
    ∷ on_small_board (draft_of_two (2 ∷ 2 ∷ []) ++ (cancel_bytes 1 ∷ row_bytes (0 ∷ 1 ∷ []) ∷ [])) post_bytes 0 1 ((0 ∷ []) ∷ [] ∷ [])
    ∷ after_p2 (keep_bytes 0 ∷ cancel_bytes 1 ∷ []) (back_bytes 0) 0 2 0 open_p2
    ∷ on_small_board (board_bytes (2 ∷ 2 ∷ []) ∷ cancel_bytes 1 ∷ []) (gap_of 1 0) 29 0 ((0 ∷ 1 ∷ []) ∷ [] ∷ [])
    ∷ c11
    ∷ []

-- THE LIST
abbrev pub samples : List Sample
samples = p1 ∷ p2 ∷ p3 ∷ p4_post ∷ p4_retract ∷ p4_again ∷ p5 ∷ p6 ∷ p7 ∷ p8 ∷ p9 ∷ p10 ∷ p11 ∷ p12 ∷ cancel_samples ++ gap_samples ++ mark_samples

-- WHAT REFUSES BYTES FOR THEIR FORM: no byte, a kind that there is not, bodies cut short, bytes left over
abbrev pub forms : List (List ℕ)
forms = [] ∷ (10 ∷ []) ∷ (9 ∷ []) ∷ (5 ∷ []) ∷ (7 ∷ []) ∷ (8 ∷ 0 ∷ 0 ∷ []) ∷ (6 ∷ 1 ∷ 7 ∷ 0 ∷ 1 ∷ []) ∷ take 32 (board_bytes (1 ∷ [])) ∷ (4 ∷ 0 ∷ []) ∷ []

abbrev pub form_numbers : List ℕ
form_numbers = 3 ∷ 3 ∷ 4 ∷ 4 ∷ 4 ∷ 4 ∷ 4 ∷ 4 ∷ 4 ∷ []
