-- A BOARD WITHOUT RULES IS STORED by its counts alone: heads, rows and killers empty, every slot of the board open. The fresh state is one of them.
-- Assumes nothing.
use Rattle.std.specs.Prelude.{◌≡◌, refl, List, [], ◌⊎◌, ℕ, zero, suc, ◌+◌, ◌*◌, ◌≤◌, ◌<◌, length, get_or, replicate}
use Rattle.std.proofs.Common.{sym, ap, ◌∙◌, inl, inr, arith, le-ltb}
use Rattle.std.proofs.Math.Option.{none}
use Rattle.tables.specs.Laws.Facts.{lt_or_le}
use Rattle.layout.specs.declared.value.Heads.{Heads}
use Rattle.model.specs.Board.{Rule, OnBoard, Shape, call_at, slot_at}
use Rattle.model.specs.Records.{Recorded}
use Rattle.model.specs.Ledger.{Ledger, bare, none_kept, fresh, kept_under}
use Rattle.model.specs.Representation.{rule_or, rule_at, RuleHeld, Headed, RowBytes, off_byte, Stored, Represents}
use Rattle.model.specs.Marks.{MarkHeld, RepresentsMarked}
use Rattle.model.proofs.Laws.Tests.{<?}
use Rattle.model.proofs.Laws.Theory.{free_call}
use Rattle.model.proofs.Laws.Shapes.{none_there, bare_none, shape_fresh}
use Rattle.layout.specs.Places.{cause_of, killer_of}
use Rattle.layout.specs.Value.{fresh_heads, empty_rule}
use Rattle.layout.specs.Names.{no_mark, no_names, mark_under}
use Rattle.layout.specs.Laws.Names.{no_names_size, none_under}
use Rattle.layout.specs.Memory.{fresh_state, fresh_marked_state, Filled}
use Rattle.layout.specs.Laws.Memory.{filled}
use Rattle.layout.specs.Sizes.{killers_length, rows_length, slots_length, marks_length}

module _ (ns : List ℕ) (shape : Shape (bare ns)) where
  no_rule : (p : ℕ) → rule_at (bare ns) p ≡ rule_or none
  no_rule p = ap rule_or (none_there 64 p)

  pub bare_headed : (h : Heads) → length h.counts ≡ 32 → ((c : ℕ) → c < 32 → get_or h.counts c 0 ≡ get_or ns c 0)
      → Filled 64 0 h.arity → Filled 256 255 h.scope → Filled 64 0 h.lengths → Headed (bare ns) h
  bare_headed h size counts fa fc fl =
      record {
        counts_size = size;
        arity_size = fa.size;
        scope_size = fc.size;
        lengths_size = fl.size;
        counts = counts;
        arity = λ p lp. fa.all p lp ∙ sym (ap (λ (r : Rule). length r.scope) (no_rule p));
        scope = λ p k lp lk. fc.all (4 * p + k) (omega arith) ∙ sym (ap (λ (r : Rule). call_at r k) (no_rule p));
        lengths = λ p lp. fl.all p lp ∙ sym (ap (λ (r : Rule). length r.rows) (no_rule p));
      }

  pub bare_rows : (rows : List ℕ) → Filled rows_length 255 rows → RowBytes (bare ns) rows
  bare_rows rows fr =
      record { rows_size = fr.size; bytes = λ p w k lp lw lk. fr.all (256 * p + 4 * w + k) (omega arith) ∙ sym (ap (λ (r : Rule). slot_at r w k) (no_rule p)) }

  module _ (slots : List ℕ) (opened : (c s : ℕ) → OnBoard (bare ns) c s → cause_of slots c s ≡ 255)
      (off : (c s : ℕ) → c < 32 → s < 32 → (OnBoard (bare ns) c s → ⊥) → cause_of slots c s ≡ 254) where
    bare_recorded : (killer : ℕ → ℕ → ℕ) → Recorded (bare ns) (cause_of slots) killer
    bare_recorded killer =
        record {
          sound = record {
            either = λ c s on. inl (opened c s on);
            grounded = λ c s h. let lt = h.1 in absurd (omega (arith, opened c s h.0));
            killers = λ p r f. absurd (bare_none ns p r f);
          };
          self = record { slots = λ c s o. o.0; support = λ c s o p r f. absurd (bare_none ns p r f) };
          alive = λ p r f. absurd (bare_none ns p r f);
        }

    -- no call is cancelled, so what is off the board is past its call's count
    past : (c s : ℕ) → (OnBoard (bare ns) c s → ⊥) → 254 ≡ off_byte (bare ns) c s
    past c s n = go (lt_or_le s (get_or ns c 0))
      where
        go : (s < get_or ns c 0) ⊎ (get_or ns c 0 ≤ s) → 254 ≡ off_byte (bare ns) c s
        go (inl h) = absurd (n h)
        go (inr le) = rw (le-ltb s (get_or ns c 0) le) refl

    bare_open : (c s : ℕ) → c < 32 → s < 32 → cause_of slots c s ≡ 255 → OnBoard (bare ns) c s
    bare_open c s lc ls e = go (<? s (get_or ns c 0))
      where
        go : OnBoard (bare ns) c s ⊎ (OnBoard (bare ns) c s → ⊥) → OnBoard (bare ns) c s
        go (inl on) = on
        go (inr n) = absurd (omega (arith, off c s lc ls n))

    pub bare_stored : (h : Heads) (rows killers : List ℕ) → Headed (bare ns) h → Filled rows_length 255 rows → Filled killers_length 255 killers → length slots ≡ slots_length
        → Stored (bare ns) h rows killers slots
    bare_stored h rows killers headed fr fk size =
        record {
          headed = headed;
          row_bytes_lem = bare_rows rows fr;
          killers_size = fk.size;
          spare = λ p w lp lw le. fk.all (64 * p + w) (omega arith);
          slots_size = size;
          off = λ c s lc ls n. off c s lc ls n ∙ past c s n;
          viable = λ c s lc ls. (
            λ e. free_call (bare ns) c (λ p r f o. bare_none ns p r f) s (bare_open c s lc ls e),
            λ v. opened c s (v.self.slots c s v.has),
          );
          recorded = bare_recorded (killer_of killers);
        }

-- no rule is the empty one
pub empty_held : RuleHeld (rule_or none) empty_rule
empty_held =
    record {
      scope_size = refl;
      rows_size = refl;
      arity = refl;
      scope = λ k lk. (filled 4 255).all k lk;
      length_is = refl;
      rows = λ w k lw lk. (filled 256 255).all (4 * w + k) (omega arith);
    }

-- THE FRESH VALUE AND BUFFERS represent the fresh ledger
pub fresh_represents : Represents fresh fresh_state
fresh_represents =
    record {
      stored = bare_stored [] shape_fresh.board (replicate slots_length 254) (λ c s on. absurd (omega arith)) (λ c s lc ls n. (filled slots_length 254).all (32 * c + s) (omega arith))
          fresh_heads (replicate rows_length 255) (replicate killers_length 255)
          (bare_headed [] shape_fresh.board fresh_heads refl (λ c lc. (filled 32 0).all c lc) (filled 64 0) (filled 256 255) (filled 64 0))
          (filled rows_length 255) (filled killers_length 255) (filled slots_length 254).size;
      drafted = record { number = refl; rule = empty_held };
    }

-- and with the marks, of which nothing is kept, whatever their bytes
none_held : (L : Ledger) → L.marks ≡ none_kept → (names marks : List ℕ) (name : ℕ) → mark_under names name ≡ no_mark → name < 2
    → MarkHeld (kept_under L name) (mark_under names name) marks name
none_held L unkept names marks zero e known = rw unkept e
none_held L unkept names marks (suc zero) e known = rw unkept e
none_held L unkept names marks (suc (suc name)) e known = absurd (omega arith)

pub fresh_marked_lem : (marks : List ℕ) → length marks ≡ marks_length → RepresentsMarked fresh (fresh_marked_state marks)
fresh_marked_lem marks size =
    record {
      state = fresh_represents;
      names_size = no_names_size;
      marks_size = size;
      held = λ name known. none_held fresh refl no_names marks name (none_under name known) known;
    }
