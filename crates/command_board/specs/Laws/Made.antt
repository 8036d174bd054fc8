-- THE BOARD THAT KIND 1 MAKES: its value and bytes are those of a board without rules. Assumes nothing.
use Rattle.std.specs.Prelude.{◌≡◌, refl, true, false, cond, List, ℕ, ◌+◌, ◌*◌, ◌/◌, ◌%◌, ◌<◌, ◌≤◌, length, get_or, ltb, Ok, Err}
use Rattle.std.proofs.Common.{◌∙◌, arith, lt-ltb, le-ltb}
use Rattle.model.specs.declared.command.Command.TheVariants as kind
use Rattle.model.specs.Board.{OnBoard, Shape}
use Rattle.model.specs.Ledger.{bare, fresh, bad_counts?, up_to_zero, effect}
use Rattle.model.specs.Representation.{Represents}
use Rattle.model.proofs.Laws.Shapes.{effect_shape, shape_fresh}
use Rattle.model.proofs.Laws.Change.{on_range}
use Rattle.model.proofs.Laws.Fresh.{bare_headed, bare_stored, fresh_represents}
use Rattle.command_board.specs.Made.{slot_byte, BuffersCleared, bare_value, MakesBoard}
use Rattle.command_board.specs.Laws.Counts.{counts_kept}
use Rattle.layout.specs.Places.{cause_of}
use Rattle.layout.specs.Memory.{State, state_of}
use Rattle.layout.specs.Laws.Memory.{filled}
use Rattle.model.specs.declared.refusal.Refusal.TheVariants as refused

slot_byte_at : (ns : List ℕ) (c s : ℕ) → s < 32 → slot_byte ns (32 * c + s) ≡ cond (ltb s (get_or ns c 0)) 255 254
unfolding slot_byte
slot_byte_at ns c s h =
    let q : (32 * c + s) / 32 ≡ c = omega arith in
    let r : (32 * c + s) % 32 ≡ s = omega arith in
    rw (q, r) refl

module _ (ns : List ℕ) (size : length ns ≡ 32) (good : bad_counts? ns ≡ false) where
  pub bare_good : Shape (bare (up_to_zero ns))
  bare_good = (effect_shape fresh shape_fresh kind.Board ns (omega arith) (rw good refl)).board

  module _ (rows killers slots : List ℕ) (k : BuffersCleared ns rows killers slots) where
    slot_at : (c s : ℕ) → c < 32 → s < 32 → cause_of slots c s ≡ cond (ltb s (get_or ns c 0)) 255 254
    slot_at c s lc ls = k.slots_made.each (32 * c + s) (omega arith) ∙ slot_byte_at ns c s ls

    opened : (c s : ℕ) → OnBoard (bare (up_to_zero ns)) c s → cause_of slots c s ≡ 255
    opened c s on =
        let l = on_range (bare (up_to_zero ns)) bare_good c s on in
        slot_at c s l.1 l.2 ∙ rw (lt-ltb s (get_or ns c 0) (rw (counts_kept ns good c) on)) refl

    off : (c s : ℕ) → c < 32 → s < 32 → (OnBoard (bare (up_to_zero ns)) c s → ⊥) → cause_of slots c s ≡ 254
    off c s lc ls n =
        let le : get_or (up_to_zero ns) c 0 ≤ s = omega arith in
        slot_at c s lc ls ∙ rw (le-ltb s (get_or ns c 0) (rw (counts_kept ns good c) le)) refl

    pub made_represents : Represents (effect fresh kind.Board ns) (state_of (bare_value ns) rows killers slots)
    made_represents =
        record {
          stored = bare_stored (up_to_zero ns) bare_good slots opened off (bare_value ns).heads rows killers
              (bare_headed (up_to_zero ns) bare_good (bare_value ns).heads size (λ c lc. counts_kept ns good c) (filled 64 0) (filled 256 255) (filled 64 0))
              k.rows_filled k.killers_filled k.slots_made.size;
          drafted = fresh_represents.drafted;
        }

    pub makes_new : (before : State) → MakesBoard ns before (Ok (record { struck = 0; reopened = 0; touched = 0 })) (state_of (bare_value ns) rows killers slots)
    makes_new before =
        record {
          refused = λ n e. let z : ◌≡◌ {A = ℕ} 0 1 = cc in absurd (omega arith);
          made = record { number = rw good refl; values = rw good refl; represents = λ e. made_represents };
        }

pub makes_nothing : (ns : List ℕ) (before : State) → bad_counts? ns ≡ true → MakesBoard ns before (Err refused.BadCounts) before
makes_nothing ns before bad =
    record {
      refused = λ n e. refl;
      made = record { number = rw bad refl; values = rw bad refl; represents = λ e. let z = rw bad at e in absurd (omega arith) };
    }
