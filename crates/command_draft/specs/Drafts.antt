-- THE DRAFTS that kinds 2 and 3 leave, and what every kind that only writes the draft promises.
use Rattle.std.specs.Prelude.{cond, List, ℕ, ◌+◌, ◌*◌, set, leb, Result, Ok, Err}
use Rattle.layout.specs.declared.value.RuleData.{RuleData}
use Rattle.layout.specs.declared.value.Draft.{Draft}
use Rattle.layout.specs.declared.value.Value.{Value}
use Rattle.model.specs.declared.answer.Outcome.{Outcome}
use Rattle.model.specs.declared.command.Head.{Head}
use Rattle.model.specs.declared.command.Row.{Row}
use Rattle.model.specs.declared.command.Command.{Command}
use Rattle.model.specs.declared.command.Command.TheVariants as kind
use Rattle.model.specs.Commands.{scope_of}
use Rattle.model.specs.Promise.{KindPromise, refused_with, accepted_with}
use Rattle.model.specs.declared.refusal.Refusal.{Refusal}
use Rattle.layout.specs.Value.{empty_rule, with_draft}
use Rattle.layout.specs.Memory.{state_of}

-- A KIND THAT ONLY WRITES THE DRAFT keeps its promise with these slot bytes, which it may read, over any other buffers; and all stay as they are
abbrev pub DraftPromise : Value → List ℕ → Command → Outcome → Type 0
DraftPromise value slots c r =
    (rows killers ns : List ℕ) → KindPromise (state_of value rows killers slots) c ns r.answer (state_of r.value rows killers slots)

-- the outcome from the new draft or the refusal: accepted with 0, 0, 0 and that draft, or refused with the value as it was
abbrev pub draft_outcome : Value → Result Draft Refusal → Outcome
draft_outcome value (Ok d) = accepted_with 0 0 0 (with_draft value d)
draft_outcome value (Err e) = refused_with e value

-- a head without rows
abbrev pub draft_of : Head → Draft
draft_of h = record { number = h.number; rule = record { arity = h.arity; scope = scope_of h; length = 0; rows = empty_rule.rows } }

-- what kind 2 promises
abbrev pub StartsDraft : Value → List ℕ → Head → Outcome → Type 0
StartsDraft value slots h r = DraftPromise value slots (kind.Head h) r

-- row bytes with a row's four slots from the place at on
abbrev pub with_slots : List ℕ → ℕ → Row → List ℕ
with_slots rows at w = set (set (set (set rows at w.slot0) (at + 1) w.slot1) (at + 2) w.slot2) (at + 3) w.slot3

-- a rule with the row at its end, and a draft of it; one of 64 rows stays as it is
abbrev pub longer_rule : RuleData → Row → RuleData
longer_rule r w =
    cond (leb r.length 63) (record { arity = r.arity; scope = r.scope; length = r.length + 1; rows = with_slots r.rows (4 * r.length) w }) r

abbrev pub with_row : Draft → Row → Draft
with_row d w = record { number = d.number; rule = longer_rule d.rule w }

-- what kind 3 promises, over any slot bytes
abbrev pub AddsRow : Value → Row → Outcome → Type 0
AddsRow value w r = (slots : List ℕ) → DraftPromise value slots (kind.Row w) r
