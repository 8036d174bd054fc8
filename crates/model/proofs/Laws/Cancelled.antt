-- WHAT THE BYTES SAY OF CANCELLED CALLS: on a stored board a call is cancelled exactly where the byte of its first slot says so, and then the bytes of all its slots do.
-- And a rule all of whose calls are cancelled binds nothing. Assumes nothing.
use Rattle.std.specs.Prelude.{◌≡◌, refl, List, ◌↔◌, ◌≢◌, ℕ, ◌<◌, ◌≤◌, length, get_or, T, eqb, ltb}
use Rattle.std.proofs.Common.{◌∙◌, ⊎_elim, arith, eqb→eq, ltb→lt, lt→ltb, lt-ltb, le-ltb}
use Rattle.std.proofs.Math.Option.{none}
use Rattle.std.proofs.Math.ListN.{get_or-eq_default}
use Rattle.layout.specs.declared.value.Heads.{Heads}
use Rattle.layout.specs.Places.{cause_of, cancelled_byte, cancelled?}
use Rattle.model.specs.Board.{Rule, Board, cancelled_on?, Cancelled, OnBoard, InForce, Active, Passing, Viable, FullPlan, Shape}
use Rattle.model.specs.Ledger.{with_rule}
use Rattle.model.specs.Representation.{Stored}
use Rattle.model.proofs.Laws.Tests.{T?, and→, →and, →eqb, same_test}
use Rattle.model.proofs.Laws.Theory.{on_live, on_count, live_on, live_not, not_live, active_same, one_rule}
use Rattle.model.proofs.Laws.Change.{weaker_viable, retracted_from, still_in_force, retract_weaker}
use Rattle.model.proofs.Laws.Joined.{on_call_along, supported_along}
use Rattle.tables.specs.Laws.Facts.{eq_or_ne, lt_or_le}

module _ (B : Board) (shape : Shape B) {h : Heads} {rows killers slots : List ℕ} (stored : Stored B h rows killers slots) where
  -- no slot of a cancelled call is on the board
  pub cancelled_off : (c s : ℕ) → Cancelled B c → OnBoard B c s → ⊥
  cancelled_off c s g on = live_not B c (on_live B c s on) g

  pub cancelled_byte_lem : (c s : ℕ) → c < 32 → s < 32 → s < get_or B.counts c 0 → Cancelled B c → cause_of slots c s ≡ cancelled_byte
  cancelled_byte_lem c s lc ls lt g = stored.off c s lc ls (cancelled_off c s g) ∙ rw (lt-ltb s (get_or B.counts c 0) lt)

  -- the first slot's byte of a call that is not cancelled: open or struck, or 254 where there is no such call
  live_first : (c : ℕ) → c < 32 → (Cancelled B c → ⊥) → cause_of slots c 0 ≡ cancelled_byte → ⊥
  live_first c lc n e = ⊎_elim there absent (lt_or_le c (length B.counts))
    where
      there : c < length B.counts → ⊥
      there l = ⊎_elim (λ (o : cause_of slots c 0 ≡ 255). omega arith) (λ (k : cause_of slots c 0 < 64). omega arith)
          (stored.recorded.sound.either c 0 (live_on B c 0 (not_live B c n) (shape.counts c l).0))

      absent : length B.counts ≤ c → ⊥
      absent le =
          let past : get_or B.counts c 0 ≤ 0 = omega (arith, get_or-eq_default B.counts 0 le) in
          let off : cause_of slots c 0 ≡ 254 = stored.off c 0 lc (omega arith) (λ on. beyond on (on_count B c 0 on)) ∙ rw (le-ltb 0 (get_or B.counts c 0) past) in
          omega arith
        where
          beyond : OnBoard B c 0 → 0 < get_or B.counts c 0 → ⊥
          beyond on h = omega (arith, get_or-eq_default B.counts 0 le)

  -- THE TEST OF THE BYTES IS THE BOARD'S
  pub cancelled_held : (c : ℕ) → cancelled? slots c ≡ cancelled_on? B c
  cancelled_held c = same_test (cancelled? slots c) (cancelled_on? B c) to from
    where
      to : T (cancelled? slots c) → Cancelled B c
      to t =
          let b = and→ (ltb c 32) (eqb (cause_of slots c 0) cancelled_byte) t in
          ⊎_elim (λ g. g) (λ n. absurd (live_first c (ltb→lt c 32 b.0) n (eqb→eq (cause_of slots c 0) cancelled_byte b.1))) (T? (cancelled_on? B c))

      from : Cancelled B c → T (cancelled? slots c)
      from g =
          let l = shape.cancelled c g in
          let lc : c < 32 = omega (arith, shape.calls) in
          →and (ltb c 32) (eqb (cause_of slots c 0) cancelled_byte) (lt→ltb c 32 lc)
          (→eqb (cause_of slots c 0) cancelled_byte (cancelled_byte_lem c 0 lc (omega arith) (shape.counts c l).0 g))

  -- of a call within the memory the first slot's byte alone
  pub first_held : (c : ℕ) → c < 32 → eqb (cause_of slots c 0) cancelled_byte ≡ cancelled_on? B c
  first_held c lc = rw (lt-ltb c 32 lc) at (cancelled_held c)

-- A RULE ALL OF WHOSE CALLS ARE CANCELLED BINDS NOTHING (SCOPE 1.20): what is viable, and which plans are full, is as without it
module _ (B : Board) (shape : Shape B) (p : ℕ) (lp : p < 64) (r : Rule) (force : InForce B p r) (idle : (k : ℕ) → Active B r k → ⊥) where
  -- another rule in force is in force without it
  not_idle : (q : ℕ) (u : Rule) → InForce B q u → (k : ℕ) → Active B u k → InForce (with_rule B p none) q u
  not_idle q u f k t =
      ⊎_elim (λ (e : q ≡ p). absurd (idle k (rw (one_rule B p (rw e at f) force) at t))) (λ (n : q ≢ p). still_in_force B p q u n f) (eq_or_ne q p)

  pub idle_viable : (c s : ℕ) → Viable B c s ↔ Viable (with_rule B p none) c s
  idle_viable c s = (
    λ v. weaker_viable B (with_rule B p none) (retract_weaker B shape p lp) c s (on_live B c s (v.self.slots c s v.has)) v,
    λ v.
        record {
          set = v.set;
          has = v.has;
          self = record {
            slots = v.self.slots;
            support = λ c s a q u f o.
                supported_along (with_rule B p none) B (λ d l. l) (λ d l. l) (Passing v.set) (Passing v.set) u c s
                (v.self.support c s a q u (not_idle q u f o.column o.active) (on_call_along B (with_rule B p none) (λ d l. l) (λ d l. l) o)) (λ k t x. x);
          };
        },
  )

  pub idle_plan : (plan : ℕ → ℕ) → FullPlan B plan ↔ FullPlan (with_rule B p none) plan
  idle_plan plan = (
    λ full.
        record {
          gives = full.gives;
          absent = full.absent;
          keeps = λ q u f j t.
              let x = full.keeps q u (retracted_from B shape p lp q u f).1 j (back u j t) in
              (x.0, x.1, λ k h. x.2 k (back u k h));
        },
    λ full.
        record {
          gives = full.gives;
          absent = full.absent;
          keeps = λ q u f j t. let x = full.keeps q u (not_idle q u f j t) j (forth u j t) in (x.0, x.1, λ k h. x.2 k (forth u k h));
        },
  )
    where
      forth : (u : Rule) (k : ℕ) → Active B u k → Active (with_rule B p none) u k
      forth u k = active_same B (with_rule B p none) u u k refl (λ l. l)

      back : (u : Rule) (k : ℕ) → Active (with_rule B p none) u k → Active B u k
      back u k = active_same (with_rule B p none) B u u k refl (λ l. l)
