-- THE LINE OF A COMMAND IS SHORT, so there is room for it. Assumes nothing.
use Rattle.std.specs.Prelude.{◌≡◌, refl, List, ℕ, ◌≤◌, ◌<◌, length, Ok}
use Rattle.std.proofs.Common.{sym, ap, ◌∙◌, arith}
use Rattle.model.specs.declared.answer.Report.{Report}
use Rattle.model.specs.declared.command.Command.{Command}
use Rattle.model.specs.declared.command.Command.TheVariants as kind
use Rattle.model.specs.Commands.{kind_of}
use Rattle.model.specs.Promise.{Answer}
use Rattle.model.specs.Sheet.{accepted_line, refused_line}
use Rattle.sheet_lines.specs.Append.{Room, Appended}
use Rattle.sheet.specs.Line.{answer_line, ShortAnswer, LineAppended}
use Rattle.sheet_lines.proofs.Laws.Append.{room_less, append_same}
use Rattle.sheet_lines.proofs.Laws.Lengths.{accepted_most, refused_most}
use Rattle.sheet_lines.specs.Lengths.{decimal_end, line_most}

-- a short line that is appended, whose bytes may be put in other words
short_appended : {bytes meant : List ℕ} {place r : ℕ} {old new : List ℕ} → bytes ≡ meant → length bytes ≤ line_most → Appended bytes place old new r → LineAppended meant place old new r
short_appended e h a = let p = a.place in record { appended = append_same e a; short = omega arith }

-- the line of what is refused: its kind and its number are bytes
module _ {kind number : ℕ} (wk : kind ≤ 255) (wn : number ≤ 255) where
  refusal_most : length (refused_line kind number) ≤ line_most
  refusal_most = refused_most kind number wk wn

  -- what the function that writes it asks
  pub refusal_asks : {place : ℕ} {out : List ℕ} → Room place line_most out
      → Room place (length (refused_line kind number)) out × ((kind < decimal_end) × (number < decimal_end))
  refusal_asks room = (room_less room refusal_most, (omega arith, omega arith))

  pub refusal_room : {place : ℕ} {out : List ℕ} → Room place line_most out → Room place (length (refused_line kind number)) out
  refusal_room room = let asks = refusal_asks room in asks.0

  pub refusal_appended : {place r : ℕ} {old new : List ℕ} → Appended (refused_line kind number) place old new r → LineAppended (refused_line kind number) place old new r
  refusal_appended a = short_appended refl refusal_most a

-- the line of what is accepted: its kind is a digit
kind_digit : (c : Command) → kind_of c < 10
kind_digit kind.Board = omega arith
kind_digit (kind.Head h) = omega arith
kind_digit (kind.Row w) = omega arith
kind_digit kind.Post = omega arith
kind_digit (kind.Retract n) = omega arith
kind_digit (kind.Gap f) = omega arith
kind_digit (kind.Keep n) = omega arith
kind_digit (kind.Back n) = omega arith
kind_digit (kind.Cancel c) = omega arith

module _ (c : Command) {given : Answer} {q : Report} {kind : ℕ} (is : given ≡ Ok q) (short : ShortAnswer given) (same : kind ≡ kind_of c) where
  accepted_short : ShortAnswer (Ok q)
  accepted_short = rw is at short

  acceptance_most : length (accepted_line kind q.struck q.reopened) ≤ line_most
  acceptance_most =
      let a = accepted_short in
      accepted_most kind q.struck q.reopened (omega (arith, kind_digit c, same)) a.together

  -- what the function that writes it asks
  pub acceptance_asks : {place : ℕ} {out : List ℕ} → Room place line_most out
      → Room place (length (accepted_line kind q.struck q.reopened)) out × ((kind < decimal_end) × ((q.struck < decimal_end) × (q.reopened < decimal_end)))
  acceptance_asks room =
      let a = accepted_short in
      (room_less room acceptance_most, (omega (arith, kind_digit c, same), (omega (arith, a.together), omega (arith, a.together))))

  pub acceptance_appended : {place r : ℕ} {old new : List ℕ} → Appended (accepted_line kind q.struck q.reopened) place old new r → LineAppended (answer_line c given) place old new r
  acceptance_appended a =
      short_appended (ap (λ (m : ℕ). accepted_line m q.struck q.reopened) same ∙ ap (answer_line c) (sym is)) acceptance_most a
