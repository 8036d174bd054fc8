-- COMMANDS AS BYTES (SCOPE 3.1 to 3.3): what stands at a place of a file of commands.
use Rattle.std.specs.Prelude.{ℕ, ◌+◌, Bool, ◌&&◌, cond, List, [], ◌∷◌, length, get_or, take, drop, replicate, leb, eqb}
use Rattle.model.specs.declared.command.Head.{Head}
use Rattle.model.specs.declared.command.Row.{Row}
use Rattle.model.specs.declared.command.GapRule.{GapRule}
use Rattle.model.specs.declared.command.Command.{Command}
use Rattle.model.specs.declared.command.Command.TheVariants as kind
use Rattle.model.specs.declared.command.Read.{Read}
use Rattle.model.specs.declared.command.Read.TheVariants as found
use Rattle.model.specs.declared.command.Decoded.{Decoded}
use Rattle.model.specs.declared.refusal.Refusal.TheVariants as refused

-- the kinds that there are, and how many bytes follow the kind's own
abbrev pub is_kind : ℕ → Bool
is_kind k = leb 1 k && leb k 9

abbrev pub body_size : ℕ → ℕ
body_size k = cond (eqb k 1) 32 (cond (eqb k 2) 6 (cond (eqb k 3) 4 (cond (eqb k 5) 1 (cond (eqb k 6) 5 (cond (eqb k 7) 1 (cond (eqb k 8) 1 (cond (eqb k 9) 1 0)))))))

-- the bodies of kinds 2, 3 and 6 that begin at b
abbrev pub head_at : List ℕ → ℕ → Head
head_at s b =
    record { number = get_or s b 0; arity = get_or s (b + 1) 0; call0 = get_or s (b + 2) 0; call1 = get_or s (b + 3) 0; call2 = get_or s (b + 4) 0; call3 = get_or s (b + 5) 0 }

abbrev pub row_at : List ℕ → ℕ → Row
row_at s b = record { slot0 = get_or s b 0; slot1 = get_or s (b + 1) 0; slot2 = get_or s (b + 2) 0; slot3 = get_or s (b + 3) 0 }

abbrev pub gap_at : List ℕ → ℕ → GapRule
gap_at s b = record { form = get_or s b 0; number = get_or s (b + 1) 0; first = get_or s (b + 2) 0; second = get_or s (b + 3) 0; gap = get_or s (b + 4) 0 }

-- the four calls of a head, the four slots of a row
abbrev pub scope_of : Head → List ℕ
scope_of h = h.call0 ∷ h.call1 ∷ h.call2 ∷ h.call3 ∷ []

abbrev pub slots_of : Row → List ℕ
slots_of r = r.slot0 ∷ r.slot1 ∷ r.slot2 ∷ r.slot3 ∷ []

-- the command of kind k whose body begins at b, and its kind
abbrev pub command_at : List ℕ → ℕ → ℕ → Command
command_at s k b =
    cond (eqb k 1) kind.Board
    (cond (eqb k 2) (kind.Head (head_at s b))
    (cond (eqb k 3) (kind.Row (row_at s b))
    (cond (eqb k 4) kind.Post
    (cond (eqb k 5) (kind.Retract (get_or s b 0))
    (cond (eqb k 6) (kind.Gap (gap_at s b))
    (cond (eqb k 7) (kind.Keep (get_or s b 0))
    (cond (eqb k 8) (kind.Back (get_or s b 0))
    (kind.Cancel (get_or s b 0)))))))))

abbrev pub kind_of : Command → ℕ
kind_of kind.Board = 1
kind_of (kind.Head h) = 2
kind_of (kind.Row r) = 3
kind_of kind.Post = 4
kind_of (kind.Retract n) = 5
kind_of (kind.Gap f) = 6
kind_of (kind.Keep n) = 7
kind_of (kind.Back n) = 8
kind_of (kind.Cancel c) = 9

-- the 32 slot counts of a kind 1 whose body begins at b; zeros for every other kind
abbrev pub counts_at : List ℕ → ℕ → ℕ → List ℕ
counts_at s k b = cond (eqb k 1) (take 32 (drop b s)) (replicate 32 0)

-- no command at a place: what is read there, and the place itself is the next
abbrev pub without : Read → ℕ → Decoded
without r at = record { read = r; counts = replicate 32 0; next = at }

-- WHAT STANDS AT A PLACE OF A FILE: nothing at its end; refusal 3 for an unknown kind, 4 for a body cut short (SCOPE 4.1); else the command, its counts, and
-- the place after its body
abbrev pub read_at : List ℕ → ℕ → Decoded
read_at s at =
    cond (leb (length s) at)
    (without found.End at)
    (cond (is_kind (get_or s at 0))
    (cond (leb (at + 1 + body_size (get_or s at 0)) (length s))
    (record {
      read = found.Command (command_at s (get_or s at 0) (at + 1));
      counts = counts_at s (get_or s at 0) (at + 1);
      next = at + 1 + body_size (get_or s at 0);
    })
    (without (found.Refused (get_or s at 0) refused.BodyLength) at))
    (without (found.Refused (get_or s at 0) refused.UnknownKind) at))
