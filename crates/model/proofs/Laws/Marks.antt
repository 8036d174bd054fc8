-- WHAT A NAME HOLDS after a board is kept: under its own name that board, under the other what it held. Assumes nothing.
use Rattle.std.specs.Prelude.{◌≡◌, refl, List, ◌≢◌, ◌⊎◌, ℕ, ◌+◌, ◌≤◌, ◌<◌, length}
use Rattle.std.proofs.Common.{sym, inl, inr, ⊎_elim, eq-or-lt_of_le, arith}
use Rattle.std.proofs.Math.Option.{Option, none, some}
use Rattle.layout.specs.declared.value.Heads.{Heads}
use Rattle.layout.specs.Names.{Mark, mark_of}
use Rattle.layout.specs.Bounds.{Sizes}
use Rattle.layout.specs.Marks.{mark_start, killers_start, slots_start, marked_rows, marked_killers, marked_slots, with_mark}
use Rattle.layout.specs.Laws.Names.{HeadsSized}
use Rattle.layout.specs.Laws.Marks.{kept_rows, kept_killers, kept_slots, outside_kept}
use Rattle.layout.specs.Sizes.{killers_length, rows_length, slots_length, mark_length, marks_length}
use Rattle.tables.specs.Laws.Facts.{lt_or_le}
use Rattle.model.specs.Board.{Board}
use Rattle.model.specs.Representation.{Headed, Stored}
use Rattle.model.specs.Marks.{BoardKept, MarkHeld}

-- the lengths of the buffers that store a board
pub stored_sizes : {B : Board} {heads : Heads} {rows killers slots : List ℕ} → Stored B heads rows killers slots → Sizes rows killers slots
stored_sizes s = record { rows_size = s.row_bytes_lem.rows_size; killers_size = s.killers_size; slots_size = s.slots_size }

-- and of the fields of its heads
pub headed_sized : {B : Board} {h : Heads} → Headed B h → HeadsSized h
headed_sized d = record { counts_size = d.counts_size; arity_size = d.arity_size; scope_size = d.scope_size; lengths_size = d.lengths_size }

module _ (marks : List ℕ) (name : ℕ) (rows killers slots : List ℕ) (size : length marks ≡ marks_length) (known : name < 2) where
  -- THE BOARD IS KEPT
  pub keep_kept : (B : Board) (heads : Heads) → Stored B heads rows killers slots → BoardKept B (mark_of heads) (with_mark marks name rows killers slots) name
  keep_kept B heads s =
      let sizes = stored_sizes s in
      record {
        kept = refl;
        stored = rw (kept_rows marks name rows killers slots size known sizes, kept_killers marks name rows killers slots size known sizes, kept_slots marks name rows killers slots size known sizes) s;
      }

  -- THE OTHER NAME HOLDS WHAT IT HELD
  module _ (sizes : Sizes rows killers slots) (other : ℕ) (apart : other ≢ name) where
    outside : (from n : ℕ) → mark_start other ≤ from → from + n ≤ mark_start other + mark_length → (from + n ≤ mark_start name) ⊎ (mark_start name + mark_length ≤ from)
    outside from n least most = ⊎_elim (λ (h : other < name). inl (omega arith)) (λ (h : name ≤ other). inr (past (eq-or-lt_of_le h))) (lt_or_le other name)
      where
        past : (name ≡ other) ⊎ (name < other) → mark_start name + mark_length ≤ from
        past (inl e) = absurd (apart (sym e))
        past (inr h) = omega arith

    pub other_rows : marked_rows (with_mark marks name rows killers slots) other ≡ marked_rows marks other
    other_rows =
        outside_kept marks name rows killers slots size known sizes (mark_start other) rows_length (outside (mark_start other) rows_length (omega arith) (omega arith))

    pub other_killers : marked_killers (with_mark marks name rows killers slots) other ≡ marked_killers marks other
    other_killers =
        outside_kept marks name rows killers slots size known sizes (killers_start other) killers_length (outside (killers_start other) killers_length (omega arith) (omega arith))

    pub other_slots : marked_slots (with_mark marks name rows killers slots) other ≡ marked_slots marks other
    other_slots =
        outside_kept marks name rows killers slots size known sizes (slots_start other) slots_length (outside (slots_start other) slots_length (omega arith) (omega arith))

    pub other_held : (o : Option Board) (m : Mark) → MarkHeld o m marks other → MarkHeld o m (with_mark marks name rows killers slots) other
    other_held none m held = held
    other_held (some B) m held = record { kept = held.kept; stored = rw (other_rows, other_killers, other_slots) held.stored }
