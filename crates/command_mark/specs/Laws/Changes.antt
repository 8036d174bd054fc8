-- A SLOT THAT CLOSES between two boards' bytes, by its place; and the slots that open, which are those that close the other way. Assumes nothing.
use Rattle.std.specs.Prelude.{◌≡◌, refl, Bool, true, false, ◌&&◌, List, ℕ, ◌+◌, ◌-◌, ◌/◌, ◌%◌, ◌≤◌, length, get_or, take, drop, eqb, ltb}
use Rattle.std.proofs.Common.{ap, ◌∙◌, arith, length-take, length-drop}
use Rattle.model.specs.Report.{open?, struck?, struck_between, reopened_between}
use Rattle.model.proofs.Laws.Tests.{count_same}
use Rattle.layout.specs.Marks.{part_from}
use Rattle.layout.specs.Sizes.{slots_length}
use Rattle.command_mark.specs.declared.changes.Changes.{Changes}
use Rattle.command_mark.specs.Changes.{Between, Few}
use Rattle.command_mark.specs.Laws.Copy.{part_width}
use Rattle.model.proofs.Laws.Counts.{open_place, struck_place, changes_few}

pub closed_place : (before after : List ℕ) (i : ℕ)
    → eqb (get_or before i 0) 255 && ltb (get_or after i 0) 64 ≡ open? before (i / 32) (i % 32) && struck? after (i / 32) (i % 32)
closed_place before after i = rw (open_place before i, struck_place after i) refl

both : (a b : Bool) → a && b ≡ b && a
both true true = refl
both true false = refl
both false true = refl
both false false = refl

pub opens_back : (before after : List ℕ) → struck_between after before ≡ reopened_between before after
opens_back before after =
    count_same slots_length (λ i. open? after (i / 32) (i % 32) && struck? before (i / 32) (i % 32)) (λ i. struck? before (i / 32) (i % 32) && open? after (i / 32) (i % 32))
    (λ i h. both (open? after (i / 32) (i % 32)) (struck? before (i / 32) (i % 32)))

-- the slots of a mark, as a part that begins at its place
module _ (marks : List ℕ) (from : ℕ) where
  abbrev slot_part : List ℕ
  slot_part = take (from + slots_length - from) (drop from marks)

  pub slot_part_size : from + slots_length ≤ length marks → length slot_part ≡ slots_length
  slot_part_size fits = omega (arith, length-take (from + slots_length - from) (drop from marks), length-drop from marks)

  pub counted_between : (slots : List ℕ) {s r : ℕ} → s ≡ struck_between slots slot_part → r ≡ struck_between slot_part slots
      → Between slots (part_from marks from slots_length) (record { struck = s; reopened = r })
  counted_between slots {s} {r} e e' =
      let same = part_width marks from slots_length in
      record {
        struck = e ∙ ap (λ (l : List ℕ). struck_between slots l) same;
        reopened = e' ∙ opens_back slots slot_part ∙ ap (λ (l : List ℕ). reopened_between slots l) same;
      }

-- no slot is struck and reopened at once
pub between_few : {before after : List ℕ} {r : Changes} → Between before after r → Few r
between_few {before} {after} b = record { together = rw (b.struck, b.reopened) (changes_few before after) }
