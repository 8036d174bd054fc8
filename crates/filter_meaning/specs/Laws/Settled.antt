-- Between work and rest: where no rule is pending the board is stored, and a stored board is one at work with any flags. A rule is stable in its bytes exactly
-- where it is stable on the board.
use Rattle.std.specs.Prelude.{◌≡◌, refl, List, Bool, ℕ, ◌<◌, length}
use Rattle.std.proofs.Common.{sym, ◌∙◌, inl, inr, ⊎_elim, arith}
use Rattle.layout.specs.declared.value.Heads.{Heads}
use Rattle.model.specs.Board.{Rule, Board, call_at, slot_at, OnBoard, InForce, Holds, Shape}
use Rattle.model.specs.Records.{Open, Sound, Recorded}
use Rattle.model.specs.Representation.{Headed, off_byte, Stored}
use Rattle.model.proofs.Laws.Theory.{on_live, active_below, below_active, open_viable}
use Rattle.model.proofs.Laws.Change.{stable_recorded, on_range, byte_on, row_on_board, recorded_stable}
use Rattle.filter_propagate.specs.Rules.{RuleBytes, rules_in, Progress, reached}
use Rattle.filter_propagate.specs.Queue.{Idle}
use Rattle.filter_propagate.specs.Stable.{StableBytes}
use Rattle.filter_propagate.specs.Steps.{Propagated}
use Rattle.filter_meaning.specs.Rules.{RulesOf, ReadAs}
use Rattle.filter_meaning.specs.Working.{Working}
use Rattle.layout.specs.Places.{columns_of, call_of, cause_of, killer_of}
use Rattle.filter_meaning.specs.Laws.Rules.{stored_rules, in_force_lem, read_as}
use Rattle.filter_meaning.specs.Laws.Working.{steps_working}
use Rattle.model.specs.Changes.{Stable}

-- a byte that is 255 is that of a slot of the board, where the bytes off the board are others
pub open_on : (B : Board) (slots : List ℕ) → ((c s : ℕ) → c < 32 → s < 32 → (OnBoard B c s → ⊥) → cause_of slots c s ≡ off_byte B c s)
    → (c s : ℕ) → c < 32 → s < 32 → cause_of slots c s ≡ 255 → OnBoard B c s
open_on B slots off c s lc ls e = byte_on B (cause_of slots) off c s lc ls (inl e)

-- STABLE IN BYTES AND ON THE BOARD
module _ (B : Board) (shape : Shape B) (R : RuleBytes) (p : ℕ) (r : Rule) (f : InForce B p r) (b : ReadAs R p r) (killers slots : List ℕ) where
  pub stable_of_bytes : Sound B (cause_of slots) (killer_of killers) → StableBytes R killers slots p → Stable B (cause_of slots) (killer_of killers) p r
  stable_of_bytes sound st =
      record {
        alive = λ w lw e k t. alive w lw e k (active_below B r k t) (row_on_board B shape p r f w k lw t);
        held = λ c s o h.
            let lk = active_below B r h.column h.active in
            let call : call_of R.scope p h.column ≡ c = b.call h.column lk ∙ h.call in
            let x = st.held h.column s (omega arith) (on_range B shape c s o.0).2 (rw call o.1) in
            let inside = x.inside in
            let lw : x.row < length r.rows = omega arith in
            (x.row, lw, x.lives, record { column = h.column; active = h.active; call = h.call; slot = sym (b.slot x.row h.column lw lk) ∙ x.holds });
      }
    where
      alive : (w : ℕ) → w < length r.rows → killer_of killers p w ≡ 255 → (k : ℕ) → k < length r.scope → OnBoard B (call_at r k) (slot_at r w k)
          → Open B (cause_of slots) (call_at r k) (slot_at r w k)
      alive w lw e k lk on =
          ⊎_elim
          (λ o. (on, o))
          (λ h. absurd (st.alive w (omega arith) e k (omega arith) (rw (b.place w k lw lk) h)))
          (sound.either (call_at r k) (slot_at r w k) on)

  pub bytes_of_stable : ((c s : ℕ) → c < 32 → s < 32 → (OnBoard B c s → ⊥) → cause_of slots c s ≡ off_byte B c s) → Stable B (cause_of slots) (killer_of killers) p r
      → StableBytes R killers slots p
  bytes_of_stable off st =
      record {
        alive = λ w lw e k lk h.
            let lw' : w < length r.rows = omega arith in
            let lk' : k < length r.scope = omega arith in
            let good = shape.rules p r f in
            let most = (shape.counts (call_at r k) (good.scope k lk')).1 in
            let struck : cause_of slots (call_at r k) (slot_at r w k) < 64 = rw (b.place w k lw' lk') at h in
            let on = byte_on B (cause_of slots) off (call_at r k) (slot_at r w k) (b.call_below k lk') (omega (arith, good.slots w k lw' lk')) (inr struck) in
            let o = st.alive w lw' e k (below_active B r k lk' (on_live B (call_at r k) (slot_at r w k) on)) in
            omega (arith, o.1);
        held = λ k s lk ls o.
            let lk' : k < length r.scope = omega arith in
            let e : cause_of slots (call_at r k) s ≡ 255 = rw (b.call k lk') at o in
            let on = open_on B slots off (call_at r k) s (b.call_below k lk') ls e in
            let x = st.held (call_at r k) s (on, e) (record { column = k; active = below_active B r k lk' (on_live B (call_at r k) s on); call = refl }) in
            let lw = x.1 in
            record { row = x.0; inside = omega arith; lives = x.2; holds = b.slot x.0 k x.1 lk' ∙ slot k lk' s x.0 x.3 };
      }
    where
      slot : (k : ℕ) → k < length r.scope → (s w : ℕ) → Holds B r w (call_at r k) s → slot_at r w k ≡ s
      slot k lk s w h = rw (b.one_column h.column k (active_below B r h.column h.active) lk h.call) at h.slot

-- NOTHING PENDING: the board is stored
pub settled : (B : Board) → Shape B → (heads : Heads) (rows : List ℕ) (z : Progress) → Headed B heads → Working B (rules_in rows heads) z → Idle z.pending
    → Stored B heads rows z.killers z.slots
settled B shape heads rows z headed work idle =
    record {
      headed = headed;
      row_bytes_lem = record { rows_size = work.sizes.rows_size; bytes = work.rules.bytes };
      killers_size = work.sizes.killers_size;
      spare = work.spare;
      slots_size = work.sizes.slots_size;
      off = work.off;
      viable = λ c s lc ls.
          let both = open_viable B (cause_of z.slots) (killer_of z.killers) known c s in
          (λ e. both.0 (open_on B z.slots work.off c s lc ls e, e), λ v. (both.1 v).1);
      recorded = known;
    }
  where
    known : Recorded B (cause_of z.slots) (killer_of z.killers)
    known =
        stable_recorded B (cause_of z.slots) (killer_of z.killers) work.sound
        (λ p r f.
        let b = read_as B shape (rules_in rows heads) work.rules p r f in
        stable_of_bytes B shape (rules_in rows heads) p r f b z.killers z.slots work.sound (work.calm p b.number (idle p b.number)))

-- AND THE WAY BACK: on a stored board every rule is stable, whatever is flagged
pub at_rest : (B : Board) → Shape B → (heads : Heads) (rows killers slots : List ℕ) → Stored B heads rows killers slots → (pending : List Bool)
    → Working B (rules_in rows heads) (reached killers slots pending)
at_rest B shape heads rows killers slots stored pending =
    record {
      sizes = record { rows_size = stored.row_bytes_lem.rows_size; killers_size = stored.killers_size; slots_size = stored.slots_size };
      rules = known;
      sound = stored.recorded.sound;
      off = stored.off;
      spare = stored.spare;
      calm = λ q lq e.
          record {
            alive = λ w lw d k lk. (stable q k lq lk).alive w lw d k lk;
            held = λ k s lk. (stable q k lq lk).held k s lk;
          };
    }
  where
    known : RulesOf B (rules_in rows heads)
    known = stored_rules B heads rows stored.headed stored.row_bytes_lem

    stable : (q k : ℕ) → q < 64 → k < columns_of heads.arity q → StableBytes (rules_in rows heads) killers slots q
    stable q k lq lk =
        let x = in_force_lem B shape (rules_in rows heads) known q k lq lk in
        bytes_of_stable B shape (rules_in rows heads) q x.0 x.1 (read_as B shape (rules_in rows heads) known q x.0 x.1) killers slots stored.off
        (recorded_stable B (cause_of slots) (killer_of killers) stored.recorded q x.0 x.1)

-- PROPAGATION, from a board at work to one that is stored
pub propagated_stored : (B : Board) → Shape B → (heads : Heads) (rows : List ℕ) {r : ℕ} (x z : Progress) → Headed B heads → Working B (rules_in rows heads) x
    → Propagated (rules_in rows heads) r x z → Stored B heads rows z.killers z.slots
propagated_stored B shape heads rows x z headed work done = settled B shape heads rows z headed (steps_working B shape (rules_in rows heads) work done.steps) done.idle
