-- ONE ROUND: what is read decides the lines that are left, the next place and the next ledger; and how the code's round is one, by what was read. Assumes nothing.
use Rattle.std.specs.Prelude.{◌≡◌, Bool, List, [], ◌++◌, ℕ, zero, suc, ◌+◌, ◌≤◌, ◌<◌, get_or}
use Rattle.std.proofs.Math.Path.{refl}
use Rattle.std.proofs.Math.Bool.{true, false, cond}
use Rattle.std.proofs.Common.{arith, leb-true, le-leb}
use Rattle.std.proofs.Math.ListN.{length}
use Rattle.std.proofs.Math.Dec.{leb}
use Rattle.model.specs.declared.command.Command.{Command}
use Rattle.model.specs.declared.command.Read.{Read}
use Rattle.model.specs.declared.command.Read.TheVariants as found
use Rattle.model.specs.declared.command.Decoded.{Decoded}
use Rattle.model.specs.declared.refusal.Refusal.{Refusal}
use Rattle.model.specs.declared.refusal.Refusal.TheVariants as refused
use Rattle.model.specs.Commands.{is_kind, body_size, command_at, counts_at, without, read_at}
use Rattle.model.specs.Ledger.{Ledger, LedgerShape, kind_conditions, obey}
use Rattle.model.specs.Promise.{Answer}
use Rattle.model.specs.Sheet.{refused_line, file_refusal, up_to_refusal, reads_from, lines_from}
use Rattle.model.proofs.Laws.Shapes.{effect_shape, counts_most}
use Rattle.command_obey.specs.Obeys.{Obeys}
use Rattle.sheet.specs.declared.advance.Progress.{Progress}
use Rattle.sheet.specs.Line.{ShortAnswer, LineAppended}
use Rattle.sheet.specs.Advance.{ledger_next, line_of, place_by, next_place, Held, CommandAdvanced, Advanced}
use Rattle.sheet.specs.Laws.Answers.{answer_line_lem, answer_short}
use Rattle.layout.specs.Memory.{MarkedState}
use Rattle.sheet_lines.proofs.Laws.Append.{append_none, append_same}
use Rattle.model.specs.Refusals.{number, first_of}

-- nothing is read at the end
pub reads_end : (n : ℕ) (s : List ℕ) (at : ℕ) → length s ≤ at → reads_from n s at ≡ []
reads_end zero s at h = refl
reads_end (suc n) s at h = rw (le-leb (length s) at h) refl

-- what the file refuses leaves the ledger alone
refused_alone : (n : ℕ) (L : Ledger) (k : ℕ) (e : Refusal) (ns : List ℕ) → obey n L (found.Refused k e) ns ≡ L
refused_alone zero L k e ns = refl
refused_alone (suc n) L k e ns = refl

-- THE LINES THAT ARE LEFT: the round's own, and those of the rounds after it
pub advance_lines : (L : Ledger) (input : List ℕ) (m : ℕ) (d : Decoded)
    → lines_from L (up_to_refusal d d.read (reads_from m input d.next)) ≡ line_of L d ++ lines_from (ledger_next L d) (reads_from m input (next_place d (length input)))
unfolding line_of ledger_next next_place
advance_lines L input m d = go d.read d.counts d.next
  where
    go : (r : Read) (ns : List ℕ) (following : ℕ)
        → lines_from L (up_to_refusal (record { read = r; counts = ns; next = following }) r (reads_from m input following))
        ≡ line_of L (record { read = r; counts = ns; next = following })
        ++ lines_from (ledger_next L (record { read = r; counts = ns; next = following })) (reads_from m input (place_by r following (length input)))
    go (found.Command c) ns following = refl
    go (found.Refused k e) ns following = rw (reads_end m input (length input) (omega arith)) refl
    go found.End ns following = rw (reads_end m input (length input) (omega arith)) refl

-- A ROUND READS ON, and not past the end
module _ (s : List ℕ) (at : ℕ) (h : at < length s) where
  pub advance_further : (at < next_place (read_at s at) (length s)) × (next_place (read_at s at) (length s) ≤ length s)
  unfolding next_place
  advance_further =
      go (leb (length s) at) refl (is_kind (get_or s at 0)) (leb (at + 1 + body_size (get_or s at 0)) (length s)) refl
    where
      go : (a : Bool) → leb (length s) at ≡ a → (b : Bool) (c : Bool) → leb (at + 1 + body_size (get_or s at 0)) (length s) ≡ c
          → let d =
          cond a (without found.End at)
          (cond b
          (cond c
          (record {
            read = found.Command (command_at s (get_or s at 0) (at + 1));
            counts = counts_at s (get_or s at 0) (at + 1);
            next = at + 1 + body_size (get_or s at 0);
          })
          (without (found.Refused (get_or s at 0) refused.BodyLength) at))
          (without (found.Refused (get_or s at 0) refused.UnknownKind) at)) in
          (at < place_by d.read d.next (length s)) × (place_by d.read d.next (length s) ≤ length s)
      go true e b c f = absurd (omega (arith, leb-true (length s) at e))
      go false e true true f = (omega arith, leb-true (at + 1 + body_size (get_or s at 0)) (length s) f)
      go false e true false f = (h, omega arith)
      go false e false c f = (h, omega arith)

-- THE NEXT LEDGER keeps its shape
pub advance_shape : (L : Ledger) (s : List ℕ) (at : ℕ) → LedgerShape L → LedgerShape (ledger_next L (read_at s at))
unfolding ledger_next
advance_shape L s at shape = go (read_at s at).read (read_at s at).counts (counts_most s at)
  where
    obeyed : (c : Command) (ns : List ℕ) → length ns ≤ 32 → (n : ℕ) → first_of (kind_conditions L c ns) ≡ n → LedgerShape (obey n L (found.Command c) ns)
    obeyed c ns most zero e = effect_shape L shape c ns most e
    obeyed c ns most (suc n) e = shape

    go : (r : Read) (ns : List ℕ) → length ns ≤ 32 → LedgerShape (obey (file_refusal L r ns) L r ns)
    go (found.Command c) ns most = obeyed c ns most (first_of (kind_conditions L c ns)) refl
    go (found.Refused k e) ns most = rw (refused_alone (number e) L k e ns) shape
    go found.End ns most = shape

-- what was obeyed on a state of some ledger has a short line
pub held_short : {before after : MarkedState} {c : Command} {ns : List ℕ} {given : Answer} → Held before → Obeys before c ns given after → ShortAnswer given
held_short {before} {after} {c} {ns} {given} h o =
    answer_short h.ledger before after c ns h.represents given (o.promise.obeyed h.ledger h.shape h.represents)

-- THE CODE'S ROUND, where the code has d for what stands at the place
pub advanced_same : {d x : Decoded} {end : ℕ} {p r : Progress} {before after : MarkedState} {old new : List ℕ} → d ≡ x
    → Advanced d end p before old r after new → Advanced x end p before old r after new
advanced_same e t = rw e at t

module _ (d : Decoded) (end : ℕ) (p : Progress) (before : MarkedState) (old : List ℕ) (r : Progress) where
  pub advanced_command : (c : Command) → d.read ≡ found.Command c → (after : MarkedState) (new : List ℕ) → CommandAdvanced c d p before old r after new
      → Advanced d end p before old r after new
  unfolding ledger_next line_of next_place
  advanced_command c e after new x =
      record {
        read = rw e x.read;
        short = x.line.short;
        line = λ L shape rep. rw e (append_same (answer_line_lem L before after c d.counts rep x.given (x.obeys.promise.obeyed L shape rep)) x.line.appended);
        represents = λ L shape rep. rw e (x.obeys.promise.obeyed L shape rep).represents;
      }

  pub advanced_refused : (k : ℕ) (f : Refusal) → d.read ≡ found.Refused k f → (new : List ℕ) → r.read ≡ end
      → LineAppended (refused_line k (number f)) p.written old new r.written → Advanced d end p before old r before new
  unfolding ledger_next line_of next_place
  advanced_refused k f e new next line =
      record {
        read = rw e next;
        short = line.short;
        line = λ L shape rep. rw e line.appended;
        represents = λ L shape rep. rw (e, refused_alone (number f) L k f d.counts) rep;
      }

  pub advanced_end : d.read ≡ found.End → r.read ≡ end → r.written ≡ p.written → Advanced d end p before old r before old
  unfolding ledger_next line_of next_place
  advanced_end e next same =
      record {
        read = rw e next;
        short = omega arith;
        line = λ L shape rep. rw (e, same) (append_none p.written old);
        represents = λ L shape rep. rw e rep;
      }
