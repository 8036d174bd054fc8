-- How each kind keeps its promise, and how the entry's promise follows from it. Assumes nothing.
use Rattle.std.specs.Prelude.{◌≡◌, refl, List, ℕ, zero, suc, ◌≤◌, ◌<◌, length, get_or, Ok, Err}
use Rattle.std.proofs.Common.{sym, ap, subst, ◌∙◌, arith}
use Rattle.std.proofs.Math.Option.{none}
use Rattle.layout.specs.Names.{Mark, no_mark, names_length, no_names, mark_under}
use Rattle.layout.specs.Memory.{State, MarkedState, marked_of}
use Rattle.model.specs.declared.answer.Report.{Report}
use Rattle.model.specs.declared.refusal.Refusal.{Refusal}
use Rattle.model.specs.declared.command.Command.{Command}
use Rattle.model.specs.declared.command.Command.TheVariants as kind
use Rattle.model.specs.declared.command.Read.TheVariants as found
use Rattle.model.specs.declared.command.Decoded.{Decoded}
use Rattle.model.specs.Commands.{kind_of, read_at}
use Rattle.model.specs.Ledger.{Ledger, none_kept, kept_under, kind_conditions, effect, obey, fresh, lengths}
use Rattle.model.specs.Representation.{Represents}
use Rattle.model.specs.Marks.{MarkHeld, RepresentsMarked, LeavesMarks}
use Rattle.model.specs.Promise.{Answer, Obeyed, ObeyedMarked, KindPromise, MarkedPromise, MemoryPromise}
use Rattle.model.specs.Refusals.{first_of, number_of}
use Rattle.model.proofs.Laws.Answers.{refused_by, never_zero}
use Rattle.model.proofs.Laws.Refusals.{number_not_zero}
use Rattle.model.proofs.Laws.Entry.{well_formed, kind_promise}
use Rattle.layout.specs.Laws.Names.{no_names_size, none_under}
use Rattle.command_board.specs.Made.{MakesBoard}
use Rattle.command_obey.specs.Obeys.{MakesAnew, Obeys, names_after}

-- A PROMISE OF THE STATE BECOMES ONE WITH THE MARKS, whose bytes are as they were: the names stay where it is refused, and else are those that the kind has to leave and
-- the stepped ledger holds
module _ {s s' : State} {c : Command} {ns : List ℕ} {given : Answer} (p : KindPromise s c ns given s') (names names' marks : List ℕ)
    (stay : (e : Refusal) → given ≡ Err e → names' ≡ names)
    (left : number_of given ≡ 0 → LeavesMarks c (marked_of s names marks) (marked_of s' names' marks))
    (size : length names ≡ names_length → length names' ≡ names_length)
    (held : (L : Ledger) → RepresentsMarked L (marked_of s names marks) → (n : ℕ) → number_of given ≡ n → (name : ℕ) → name < 2
    → MarkHeld (kept_under (obey n L (found.Command c) ns) name) (mark_under names' name) marks name) where
  pub with_marks : MarkedPromise (marked_of s names marks) c ns given (marked_of s' names' marks)
  with_marks =
      record {
        refused = λ n e.
            ap (λ (x : State). marked_of x names' marks) (p.refused n e) ∙ ap (λ (x : List ℕ). marked_of s x marks) (stay n e);
        never_zero = p.never_zero;
        marks = left;
        obeyed = λ L shape is. obeyed L is (p.obeyed L shape is.state);
      }
    where
      obeyed : (L : Ledger) → RepresentsMarked L (marked_of s names marks) → Obeyed L s c ns given s' → ObeyedMarked L (marked_of s names marks) c ns given (marked_of s' names' marks)
      obeyed L is d =
          record {
            report = d.report;
            number = d.number;
            values = d.values;
            reported = d.reported;
            represents = record { state = d.represents; names_size = size is.names_size; marks_size = is.marks_size; held = held L is (first_of (kind_conditions L c ns)) d.number };
          }

-- KINDS 2 TO 6 AND 9 have no part in the marks: neither their bytes nor their names, nor what the ledger keeps
abbrev pub WithoutMarks : Command → Type 0
WithoutMarks kind.Board = ⊥
WithoutMarks (kind.Head h) = Unit {0}
WithoutMarks (kind.Row w) = Unit {0}
WithoutMarks kind.Post = Unit {0}
WithoutMarks (kind.Retract n) = Unit {0}
WithoutMarks (kind.Gap f) = Unit {0}
WithoutMarks (kind.Keep n) = ⊥
WithoutMarks (kind.Back n) = ⊥
WithoutMarks (kind.Cancel c) = Unit {0}

leaves_same : (c : Command) → WithoutMarks c → (s s' : State) (names marks : List ℕ) → LeavesMarks c (marked_of s names marks) (marked_of s' names marks)
leaves_same kind.Board out s s' names marks = absurd out
leaves_same (kind.Head h) out s s' names marks = record { names_are = refl; marks_are = refl }
leaves_same (kind.Row w) out s s' names marks = record { names_are = refl; marks_are = refl }
leaves_same kind.Post out s s' names marks = record { names_are = refl; marks_are = refl }
leaves_same (kind.Retract n) out s s' names marks = record { names_are = refl; marks_are = refl }
leaves_same (kind.Gap f) out s s' names marks = record { names_are = refl; marks_are = refl }
leaves_same (kind.Keep n) out s s' names marks = absurd out
leaves_same (kind.Back n) out s s' names marks = absurd out
leaves_same (kind.Cancel c) out s s' names marks = record { names_are = refl; marks_are = refl }

kept_same : (c : Command) → WithoutMarks c → (L : Ledger) (ns : List ℕ) → (effect L c ns).marks ≡ L.marks
kept_same kind.Board out L ns = absurd out
kept_same (kind.Head h) out L ns = refl
kept_same (kind.Row w) out L ns = refl
kept_same kind.Post out L ns = refl
kept_same (kind.Retract n) out L ns = refl
kept_same (kind.Gap f) out L ns = refl
kept_same (kind.Keep n) out L ns = absurd out
kept_same (kind.Back n) out L ns = absurd out
kept_same (kind.Cancel c) out L ns = refl

not_board : (c : Command) → WithoutMarks c → c ≡ kind.Board → ⊥
not_board c out e = subst (λ (x : Command). WithoutMarks x) e out

-- they promise no more than their kind's promise. The command is d by what the match on it found
pub other_obeys : {s s' : State} {c d : Command} {ns names marks : List ℕ} {given : Answer} → c ≡ d → WithoutMarks d → KindPromise s d ns given s'
    → Obeys (marked_of s names marks) c ns given (marked_of s' names marks)
other_obeys {s} {s'} {c} {d} {ns} {names} {marks} {given} is out p = rw is (record { promise = promise; made = λ z. absurd (not_board d out z) })
  where
    held : (L : Ledger) → RepresentsMarked L (marked_of s names marks) → (n : ℕ) → number_of given ≡ n → (name : ℕ) → name < 2
        → MarkHeld (kept_under (obey n L (found.Command d) ns) name) (mark_under names name) marks name
    held L is zero z name known = rw (kept_same d out L ns) (is.held name known)
    held L is (suc n) z name known = is.held name known

    promise : MarkedPromise (marked_of s names marks) d ns given (marked_of s' names marks)
    promise = with_marks p names names marks (λ n z. refl) (λ z. leaves_same d out s s' names marks) (λ e. e) held

-- KIND 1: its promise of the state
board_kind : {s s' : State} {ns : List ℕ} {given : Answer} → MakesBoard ns s given s' → KindPromise s kind.Board ns given s'
board_kind {s} {s'} {ns} {given} m =
    record {
      refused = m.refused;
      never_zero = never_zero given;
      obeyed = λ L shape rep. obeyed L rep;
    }
  where
    none_changed : Report
    none_changed = record { struck = 0; reopened = 0; touched = 0 }

    obeyed : (L : Ledger) → Represents L s → Obeyed L s kind.Board ns given s'
    obeyed L rep =
        record {
          report = none_changed;
          number = m.made.number;
          values = m.made.values;
          reported = λ e. record { struck = refl; reopened = refl; own = refl };
          represents = go (first_of (kind_conditions fresh kind.Board ns)) m.made.number m.made.represents;
        }
      where
        go : (k : ℕ) → number_of given ≡ k → (k ≡ 0 → Represents (effect fresh kind.Board ns) s') → Represents (obey k L (found.Command kind.Board) ns) s'
        go zero e made = let board = made refl in record { stored = board.stored; drafted = board.drafted }
        go (suc k) e made = subst (λ (x : State). Represents L x) (let r = refused_by given k e in sym (m.refused r.0 r.1)) rep

-- both names are forgotten where it is accepted
forgotten : (given : Answer) (names : List ℕ) → number_of given ≡ 0 → names_after given names ≡ no_names
forgotten (Ok r) names z = refl
forgotten (Err e) names z = absurd (number_not_zero e z)

after_size : (given : Answer) (names : List ℕ) → length names ≡ names_length → length (names_after given names) ≡ names_length
after_size (Ok r) names size = no_names_size
after_size (Err e) names size = size

-- the ledger keeps nothing then
bare_held : (m : Mark) (marks : List ℕ) (name : ℕ) → m ≡ no_mark → name < 2 → MarkHeld (get_or none_kept name none) m marks name
bare_held m marks zero e known = e
bare_held m marks (suc zero) e known = e
bare_held m marks (suc (suc name)) e known = absurd (omega arith)

pub board_obeys : {s s' : State} {c : Command} {ns names names' marks : List ℕ} {given : Answer} → c ≡ kind.Board → MakesAnew ns s names given s' names'
    → Obeys (marked_of s names marks) c ns given (marked_of s' names' marks)
board_obeys {s} {s'} {c} {ns} {names} {names'} {marks} {given} is m = rw (is, m.names_are) (record { promise = promise; made = λ z. m.board.made })
  where
    p : KindPromise s kind.Board ns given s'
    p = board_kind m.board

    left : List ℕ
    left = names_after given names

    held : (L : Ledger) → RepresentsMarked L (marked_of s names marks) → (n : ℕ) → number_of given ≡ n → (name : ℕ) → name < 2
        → MarkHeld (kept_under (obey n L (found.Command kind.Board) ns) name) (mark_under left name) marks name
    held L is zero z name known =
        rw (forgotten given names z) (bare_held (mark_under no_names name) marks name (none_under name known) known)
    held L is (suc n) z name known = rw (refused_by given n z).1 (is.held name known)

    promise : MarkedPromise (marked_of s names marks) kind.Board ns given (marked_of s' left marks)
    promise =
        with_marks p names left marks (λ n z. rw z refl) (λ z. record { names_are = forgotten given names z; marks_are = refl }) (after_size given names) held

-- KINDS 7 AND 8 promise of the marks themselves
pub mark_obeys : {before after : MarkedState} {c d : Command} {ns : List ℕ} {given : Answer} → c ≡ d → 7 ≤ kind_of d → MarkedPromise before d ns given after
    → Obeys before c ns given after
mark_obeys is least p = rw is (record { promise = p; made = λ z. absurd (omega (arith, least, ap kind_of z)) })

-- THE ENTRY'S PROMISE OF VALUE, BUFFERS AND MARKS from a command that was read whole, as d at the first byte, with nothing left over, and obeyed: the lengths are right
pub obeys_promise : {s after : MarkedState} {bytes : List ℕ} {c : Command} {given : Answer} (d : Decoded) → d ≡ read_at bytes 0
    → d.read ≡ found.Command c → length bytes ≤ d.next → Obeys s c d.counts given after → MemoryPromise lengths s bytes given after
obeys_promise {s} {after} {bytes} {c} {given} d decoded is whole o =
    let read : (read_at bytes 0).read ≡ found.Command c = ap (λ (x : Decoded). x.read) (sym decoded) ∙ is in
    let same = subst (λ (x : Decoded). Obeys s c x.counts given after) decoded o in
    kind_promise lengths s bytes c given after read (well_formed lengths s bytes refl refl d decoded c is whole) same.promise same.made
