-- A CALL HAS NO EFFECT ON CALLS THAT NO RULES JOIN TO IT (SCOPE 1.9), whether something of it is open or not: their open slots are those of the board without
-- it. Assumes nothing.
use Rattle.std.specs.Prelude.{◌≡◌, Bool, true, false, List, [], ◌∷◌, ◌↔◌, ◌≢◌, ℕ, zero, suc, get_or}
use Rattle.std.proofs.Math.Path.{refl}
use Rattle.std.proofs.Math.Option.{Option, none, some}
use Rattle.std.proofs.Common.{arith, get_or-set_other}
use Rattle.std.proofs.Math.ListN.{set}
use Rattle.model.specs.Board.{Rule, Board, call_at, slot_at, InForce, Live, Active, InScope, Supported, SelfSupporting, Passing, Viable}
use Rattle.model.specs.Filter.{in_scope?}
use Rattle.model.proofs.Laws.Tests.{T→, →T, none_some}
use Rattle.model.proofs.Laws.Theory.{on_live, on_count, live_on, active_same}
use Rattle.model.proofs.Laws.Filter.{viable_in_any, on_call→, →on_call}
use Rattle.model.specs.Joined.{Joined, unless, off_call, without_call, by, itself}

-- a rule in force on it was in force and is not on c; and a rule that is not on c stays in force
off_from : (B : Board) (c : ℕ) (os : List (Option Rule)) (p : ℕ) (r : Rule) → get_or (off_call B c os) p none ≡ some r → (get_or os p none ≡ some r) × (InScope B r c → ⊥)
off_from B c [] p r e = none_some e
off_from B c (none ∷ os) zero r e = none_some e
off_from B c (some u ∷ os) zero r e = go (in_scope? B u c) refl e
  where
    go : (b : Bool) → in_scope? B u c ≡ b → unless b (some u) ≡ some r → (some u ≡ some r) × (InScope B r c → ⊥)
    go true q e = none_some e
    go false q e =
        let same : u ≡ r = cc in
        (e, λ o. let z : ◌≡◌ {A = ℕ} 0 1 = cc (q, T→ (in_scope? B u c) (→on_call B u c (rw (← same) at o))) in omega arith)
off_from B c (none ∷ os) (suc p) r e = off_from B c os p r e
off_from B c (some u ∷ os) (suc p) r e = off_from B c os p r e

off_keeps : (B : Board) (c : ℕ) (os : List (Option Rule)) (p : ℕ) (r : Rule) → get_or os p none ≡ some r → (InScope B r c → ⊥) → get_or (off_call B c os) p none ≡ some r
off_keeps B c [] p r e n = none_some e
off_keeps B c (none ∷ os) zero r e n = none_some e
off_keeps B c (some u ∷ os) zero r e n = go (in_scope? B u c) refl
  where
    go : (b : Bool) → in_scope? B u c ≡ b → unless b (some u) ≡ some r
    go true q = let same : u ≡ r = cc in absurd (n (rw same at (on_call→ B u c (→T (in_scope? B u c) q))))
    go false q = e
off_keeps B c (none ∷ os) (suc p) r e n = off_keeps B c os p r e n
off_keeps B c (some u ∷ os) (suc p) r e n = off_keeps B c os p r e n

-- the counts of the other calls stay
counts_off : (B : Board) (c d : ℕ) → d ≢ c → get_or (set B.counts c 0) d 0 ≡ get_or B.counts d 0
counts_off B c d n = get_or-set_other B.counts c d 0 0 n

-- what a rule asks is the same on both boards, where the same calls take part
module _ (B B' : Board) (to-live : (c : ℕ) → Live B c → Live B' c) (Live-to : (c : ℕ) → Live B' c → Live B c) where
  pub on_call_along : {r : Rule} {c : ℕ} → InScope B r c → InScope B' r c
  on_call_along {r} o = record { column = o.column; active = active_same B B' r r o.column refl (to-live (call_at r o.column)) o.active; call = o.call }

  pub supported_along : (A C : ℕ → ℕ → Type 0) (r : Rule) (c s : ℕ) → (u : Supported B A r c s)
      → ((k : ℕ) → Active B r k → A (call_at r k) (slot_at r u.row k) → C (call_at r k) (slot_at r u.row k)) → Supported B' C r c s
  supported_along A C r c s u to =
      let h = u.holds in
      record {
        row = u.row;
        inside = u.inside;
        holds = record { column = h.column; active = active_same B B' r r h.column refl (to-live (call_at r h.column)) h.active; call = h.call; slot = h.slot };
        within = λ k t. let b = active_same B' B r r k refl (Live-to (call_at r k)) t in to k b (u.within k b);
      }

module _ (B : Board) (c : ℕ) where
  -- A set with the slots of joined calls left out
  Apart : (ℕ → ℕ → Type 0) → ℕ → ℕ → Type 0
  Apart A d s = A d s × (Joined B c d → ⊥)

  -- every call of a rule on a call that is not joined is not joined
  spread : (p : ℕ) (r : Rule) (d k : ℕ) → InForce B p r → InScope B r d → (Joined B c d → ⊥) → Active B r k → Joined B c (call_at r k) → ⊥
  spread p r d k f o n t j = n (by p r j f (record { column = k; active = t; call = refl }) o)

  leave_out : (A : ℕ → ℕ → Type 0) → SelfSupporting B A → SelfSupporting (without_call B c) (Apart A)
  unfolding Apart
  leave_out A self =
      record {
        slots = λ d s a. let on = self.slots d s a.0 in
            live_on (without_call B c) d s (on_live B d s on) (rw (counts_off B c d (λ e. a.1 (rw e itself))) (on_count B d s on));
        support = λ d s a p r f o.
            let g = off_from B c B.rules p r f in
            let o' = on_call_along (without_call B c) B (λ d l. l) (λ d l. l) o in
            supported_along B (without_call B c) (λ d l. l) (λ d l. l) A (λ d s. A d s × (Joined B c d → ⊥)) r d s (self.support d s a.0 p r g.0 o')
            (λ k t x. (x, spread p r d k g.0 o' a.1 t));
      }

  put_back : (A : ℕ → ℕ → Type 0) → SelfSupporting (without_call B c) A → SelfSupporting B (Apart A)
  unfolding Apart
  put_back A self =
      record {
        slots = λ d s a. let on = self.slots d s a.0 in
            live_on B d s (on_live (without_call B c) d s on) (rw (counts_off B c d (λ e. a.1 (rw e itself))) at (on_count (without_call B c) d s on));
        support = λ d s a p r f o.
            let g = off_keeps B c B.rules p r f (λ oc. a.1 (by p r itself f oc o)) in
            supported_along (without_call B c) B (λ d l. l) (λ d l. l) A (λ d s. A d s × (Joined B c d → ⊥)) r d s (self.support d s a.0 p r g (on_call_along B (without_call B c) (λ d l. l) (λ d l. l) o))
            (λ k t x. (x, spread p r d k f o a.1 (active_same (without_call B c) B r r k refl (λ l. l) t)));
      }

  -- THE SLOTS OF A CALL THAT NO CHAIN OF RULES JOINS to c are viable with it and without it alike
  pub unjoined_viable : (d s : ℕ) → (Joined B c d → ⊥) → Viable B d s ↔ Viable (without_call B c) d s
  unfolding Apart
  unjoined_viable d s n = (
    λ v. (viable_in_any (without_call B c) d s).1 (record { set = Apart (Passing v.set); self = leave_out (Passing v.set) v.self; has = (v.has, n) }),
    λ v. (viable_in_any B d s).1 (record { set = Apart (Passing v.set); self = put_back (Passing v.set) v.self; has = (v.has, n) }),
  )
