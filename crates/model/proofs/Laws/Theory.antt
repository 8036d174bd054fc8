-- WHAT FOLLOWS FROM THE DEFINITIONS ALONE. A grounded slot is in no self-supporting set, by induction; so the open slots are the union of all of them,
-- there is no ring, and no full plan uses a struck slot. Assumes nothing.
use Rattle.std.specs.Prelude.{◌≡◌, refl, Bool, true, false, not, ◌&&◌, cond, ◌↔◌, ◌⊎◌, ℕ, ◌<◌, ◌≤◌, length, get_or, T, ltb}
use Rattle.std.proofs.Common.{sym, ap, ◌∙◌, inl, inr, arith, ltb→lt, lt→ltb, T_not}
use Rattle.std.proofs.Math.Option.{none}
use Rattle.std.proofs.Math.Decide.{dec_lt}
use Rattle.std.proofs.Math.ListN.{get_or-eq_default}
use Rattle.std.proofs.Math.Dec.{not_T}
use Rattle.model.specs.Board.{Rule, Board, call_at, slot_at, cancelled_on?, Cancelled, live?, Live, slots_on, OnBoard, InForce, active?, Active, InScope, Holds, Supported, SelfSupporting, Passing, Viable, Alive, Dead, Same, AtLeast, FullPlan, Shape}
use Rattle.model.specs.Records.{Open, Struck, Caused, KillerIn, RingAt, Ring, NoRing, Escape, EscapeFromAll, Grounded, because, Recorded}
use Rattle.model.proofs.Laws.Tests.{T?, <?, none_some, and→, →and}
use Rattle.tables.specs.Laws.Facts.{eq_or_ne, find_below, decide_both}

-- A SLOT IS ON THE BOARD where it is below its call's count and the call is not cancelled
pub on_live : (B : Board) (c s : ℕ) → OnBoard B c s → Live B c
on_live B c s h = go (cancelled_on? B c) h
  where
    go : (b : Bool) → s < cond b 0 (get_or B.counts c 0) → T (not b)
    go true h = absurd (omega arith)
    go false h = tt

pub on_count : (B : Board) (c s : ℕ) → OnBoard B c s → s < get_or B.counts c 0
on_count B c s h = go (cancelled_on? B c) h
  where
    go : (b : Bool) → s < cond b 0 (get_or B.counts c 0) → s < get_or B.counts c 0
    go true h = absurd (omega arith)
    go false h = h

pub live_on : (B : Board) (c s : ℕ) → Live B c → s < get_or B.counts c 0 → OnBoard B c s
live_on B c s l h = go (cancelled_on? B c) l
  where
    go : (b : Bool) → T (not b) → s < cond b 0 (get_or B.counts c 0)
    go true l = absurd l
    go false l = h

pub on_board : (B : Board) (c s : ℕ) → OnBoard B c s ↔ ((s < get_or B.counts c 0) × Live B c)
on_board B c s = (λ h. (on_count B c s h, on_live B c s h), λ u. live_on B c s u.1 u.0)

-- a call is cancelled, or takes part
pub live_not : (B : Board) (c : ℕ) → Live B c → Cancelled B c → ⊥
live_not B c l g = T_not (cancelled_on? B c) l g

pub not_live : (B : Board) (c : ℕ) → (Cancelled B c → ⊥) → Live B c
not_live B c n = not_T (cancelled_on? B c) n

-- where fewer calls are cancelled more take part
pub live_along : (B B' : Board) (c : ℕ) → (Cancelled B' c → Cancelled B c) → Live B c → Live B' c
live_along B B' c back l = not_live B' c (λ g. live_not B c l (back g))

-- LAWS OF THE ACTIVE COLUMNS. The rest of the theory goes by these
pub active_below : (B : Board) (r : Rule) (k : ℕ) → Active B r k → k < length r.scope
unfolding active?
active_below B r k t = ltb→lt k (length r.scope) (and→ (ltb k (length r.scope)) (live? B (call_at r k)) t).0

pub active_live : (B : Board) (r : Rule) (k : ℕ) → Active B r k → Live B (call_at r k)
unfolding active?
active_live B r k t = (and→ (ltb k (length r.scope)) (live? B (call_at r k)) t).1

pub below_active : (B : Board) (r : Rule) (k : ℕ) → k < length r.scope → Live B (call_at r k) → Active B r k
unfolding active?
below_active B r k h l = →and (ltb k (length r.scope)) (live? B (call_at r k)) (lt→ltb k (length r.scope) h) l

-- a column that is active on a board is active on one where its call takes part, for a rule with the same calls
pub active_same : (B B' : Board) (r r' : Rule) (k : ℕ) → r.scope ≡ r'.scope → (Live B (call_at r k) → Live B' (call_at r' k)) → Active B r k → Active B' r' k
active_same B B' r r' k e to t = below_active B' r' k (rw e at (active_below B r k t)) (to (active_live B r k t))

-- two rules in force under one number are one
pub one_rule : (B : Board) (p : ℕ) {r r' : Rule} → InForce B p r → InForce B p r' → r ≡ r'
one_rule B p e e' = cc

-- a rule in force has a number in the list
pub numbered : (B : Board) (p : ℕ) (r : Rule) → InForce B p r → p < length B.rules
numbered B p r f = go (dec_lt p (length B.rules))
  where
    go : Dec (p < length B.rules) → p < length B.rules
    go (yes h) = h
    go (no n) = let le : length B.rules ≤ p = omega arith in none_some (sym (get_or-eq_default B.rules none le) ∙ f)

-- two sets with the same slots are self-supporting together
pub self_along : (B : Board) (A C : ℕ → ℕ → Type 0) → ((c s : ℕ) → A c s → C c s) → ((c s : ℕ) → C c s → A c s)
    → SelfSupporting B A → SelfSupporting B C
self_along B A C to from self =
    record {
      slots = λ c s b. self.slots c s (from c s b);
      support = λ c s b p r f o. let u : Supported B A r c s = self.support c s (from c s b) p r f o in
          record { row = u.row; inside = u.inside; holds = u.holds; within = λ k h. to (call_at r k) (slot_at r u.row k) (u.within k h) };
    }

holds? : (B : Board) (r : Rule) (w c s : ℕ) → Holds B r w c s ⊎ (Holds B r w c s → ⊥)
holds? B r w c s = go (find_below Has (λ k. decide_both (T? (active? B r k)) (decide_both (eq_or_ne (call_at r k) c) (eq_or_ne (slot_at r w k) s))) (length r.scope))
  where
    Has : ℕ → Type 0
    Has k = Active B r k × ((call_at r k ≡ c) × (slot_at r w k ≡ s))

    go : ((k : ℕ) × (k < length r.scope) × Has k) ⊎ ((k : ℕ) → k < length r.scope → Has k → ⊥) → Holds B r w c s ⊎ (Holds B r w c s → ⊥)
    go (inl t) = inl (record { column = t.0; active = t.2.0; call = t.2.1.0; slot = t.2.1.1 })
    go (inr n) = inr (λ h. n h.column (active_below B r h.column h.active) (h.active, (h.call, h.slot)))

-- a self-supporting set whose members can be told makes its slots viable
passes : {A : Type 0} → A ⊎ (A → ⊥) → Bool
passes (inl a) = true
passes (inr n) = false

passes_in : {A : Type 0} (d : A ⊎ (A → ⊥)) → T (passes d) → A
unfolding passes
passes_in (inl a) t = a
passes_in (inr n) t = absurd t

in_passes : {A : Type 0} (d : A ⊎ (A → ⊥)) → A → T (passes d)
unfolding passes
in_passes (inl a) x = tt
in_passes (inr n) x = n x

pub viable_of : (B : Board) (A : ℕ → ℕ → Type 0) → ((c s : ℕ) → A c s ⊎ (A c s → ⊥)) → SelfSupporting B A
    → (c s : ℕ) → A c s → Viable B c s
viable_of B A test self c s a =
    record {
      set = λ c s. passes (test c s);
      self = self_along B A (Passing λ c s. passes (test c s)) (λ c s. in_passes (test c s)) (λ c s. passes_in (test c s)) self;
      has = in_passes (test c s) a;
    }

-- A GROUNDED SLOT is in no self-supporting set
pub grounded_out : (B : Board) (cause killer : ℕ → ℕ → ℕ) {c s : ℕ} → Grounded B cause killer c s → (A : ℕ → ℕ → Type 0) → SelfSupporting B A → A c s → ⊥
grounded_out B cause killer {c} {s} (because r f o k g) A self a =
    let u : Supported B A r c s = self.support c s a (cause c s) r f o in
    grounded_out B cause killer (g u.row u.inside u.holds) A self (u.within (killer (cause c s) u.row) (k u.row u.inside u.holds))

-- NO RING has a grounded slot
grounded_no_ring : (B : Board) (cause killer : ℕ → ℕ → ℕ) (E : ℕ → ℕ → Type 0) → ((c s : ℕ) → E c s → RingAt B cause killer E c s)
    → {c s : ℕ} → Grounded B cause killer c s → E c s → ⊥
grounded_no_ring B cause killer E ring {c} {s} (because r f o k g) e =
    let u : RingAt B cause killer E c s = ring c s e in
    let q : u.rule ≡ r = one_rule B (cause c s) u.force f in
    grounded_no_ring B cause killer E ring (g u.row (rw q at u.inside) (rw q at u.holds)) (rw q at u.killed.member)

-- and from a set with a grounded slot the killers lead out
grounded_escape : (B : Board) (cause killer : ℕ → ℕ → ℕ) (Z : ℕ → ℕ → Bool) {c s : ℕ} → Grounded B cause killer c s → T (Z c s) → Escape B cause killer (Passing Z)
grounded_escape B cause killer Z {c} {s} (because r f o k g) z =
    go (λ w h hd kz. grounded_escape B cause killer Z (g w h hd) kz)
    (find_below Inner (λ w. decide_both (holds? B r w c s) (T? (Z (call_at r (killer (cause c s) w)) (slot_at r w (killer (cause c s) w))))) (length r.rows))
  where
    Inner : ℕ → Type 0
    Inner w = Holds B r w c s × T (Z (call_at r (killer (cause c s) w)) (slot_at r w (killer (cause c s) w)))

    go : ((w : ℕ) → w < length r.rows → Holds B r w c s → T (Z (call_at r (killer (cause c s) w)) (slot_at r w (killer (cause c s) w))) → Escape B cause killer (Passing Z))
        → ((w : ℕ) × (w < length r.rows) × Inner w) ⊎ ((w : ℕ) → w < length r.rows → Inner w → ⊥)
        → Escape B cause killer (Passing Z)
    go again (inl t) = again t.0 t.1 t.2.0 t.2.1
    go again (inr n) =
        record { call = c; slot = s; member = z; outside = record { rule = r; force = f; out = λ w h hd. record { column = k w h hd; member = λ kz. n w h (hd, kz) } } }

-- A FULL PLAN uses only viable slots (SCOPE 6.13)
pub plan_viable : (B : Board) (plan : ℕ → ℕ) → Shape B → FullPlan B plan → (c : ℕ) → c < length B.counts → Live B c → Viable B c (plan c)
plan_viable B plan shape full c h l =
    viable_of B Used (λ c s. decide_both (<? c (length B.counts)) (decide_both (T? (live? B c)) (eq_or_ne (plan c) s))) self c (plan c) (h, (l, refl))
  where
    Used : ℕ → ℕ → Type 0
    Used c s = (c < length B.counts) × (Live B c × (plan c ≡ s))

    self : SelfSupporting B Used
    self =
        record {
          slots = λ c s u. rw (← u.1.1) (full.gives c u.0 u.1.0);
          support = λ c s u p r f o. let t = full.keeps p r f o.column o.active in
              record {
                row = t.0;
                inside = t.1;
                holds = record { column = o.column; active = o.active; call = o.call; slot = cc (t.2 o.column o.active, ap plan o.call) };
                within = λ k h. ((shape.rules p r f).scope k (active_below B r k h), (active_live B r k h, sym (t.2 k h)));
              };
        }

-- WHAT THE RECORDS GIVE
module _ (B : Board) (cause killer : ℕ → ℕ → ℕ) (known : Recorded B cause killer) where
  -- the open slots are the largest self-supporting set, also among sets that have no test
  pub largest : (A : ℕ → ℕ → Type 0) → SelfSupporting B A → (c s : ℕ) → A c s → Open B cause c s
  largest A self c s a = let on = self.slots c s a in go on (known.sound.either c s on)
    where
      go : OnBoard B c s → (cause c s ≡ 255) ⊎ (cause c s < 64) → Open B cause c s
      go on (inl e) = (on, e)
      go on (inr h) = absurd (grounded_out B cause killer (known.sound.grounded c s (on, h)) A self a)

  pub open_viable : (c s : ℕ) → Open B cause c s ↔ Viable B c s
  open_viable c s = (
    viable_of B (Open B cause) (λ c s. decide_both (<? s (slots_on B c)) (eq_or_ne (cause c s) 255)) known.self c s,
    λ v. largest (Passing v.set) v.self c s v.has,
  )

  -- the cause of a struck slot is what SCOPE 1.12 says
  pub struck_caused : (c s : ℕ) → Struck B cause c s → Caused B cause c s
  struck_caused c s h = go (known.sound.grounded c s h)
    where
      go : Grounded B cause killer c s → Caused B cause c s
      go (because r f o k g) = record { rule = r; force = f; call = o }

  -- a row is alive and has no killer, or is dead and its killer is the column of a struck slot in it
  pub row_records : (p : ℕ) (r : Rule) → InForce B p r → (w : ℕ) → w < length r.rows
      → ((killer p w ≡ 255) × Alive B r w) ⊎ (KillerIn B killer (Struck B cause) r p w × Dead B r w)
  row_records p r f w h = go (known.sound.killers p r f w h)
    where
      dead : KillerIn B killer (Struck B cause) r p w → Dead B r w
      dead k alive =
          let c = call_at r (killer p w) in
          let s = slot_at r w (killer p w) in
          let o = (open_viable c s).1 (alive (killer p w) k.column) in
          let lt = k.member.1 in
          omega (arith, o.1)

      go : (killer p w ≡ 255) ⊎ KillerIn B killer (Struck B cause) r p w → ((killer p w ≡ 255) × Alive B r w) ⊎ (KillerIn B killer (Struck B cause) r p w × Dead B r w)
      go (inl e) = inl (e, λ k h'. (open_viable (call_at r k) (slot_at r w k)).0 (known.alive p r f w h e k h'))
      go (inr k) = inr (k, dead k)

  -- no ring, in the words of a ring: also of sets that have no test
  pub rings_empty : (E : ℕ → ℕ → Type 0) → Ring B cause killer E → ⊥
  rings_empty E ring =
      grounded_no_ring B cause killer E ring.each (known.sound.grounded ring.call ring.slot (ring.each ring.call ring.slot ring.member).struck) ring.member

  pub no_ring : NoRing B cause killer
  no_ring E = rings_empty (Passing E)

  -- and in the words of a way out
  pub escape_from_all : EscapeFromAll B cause killer
  escape_from_all Z struck c s z = grounded_escape B cause killer Z (known.sound.grounded c s (struck c s z)) z

  -- a full plan uses only open slots
  pub plan_open : (plan : ℕ → ℕ) → Shape B → FullPlan B plan → (c : ℕ) → c < length B.counts → Live B c → Open B cause c (plan c)
  plan_open plan shape full c h l = (open_viable c (plan c)).1 (plan_viable B plan shape full c h l)

-- FEWER RULES AND MORE CANCELLED CALLS, NO FEWER OPEN SLOTS on the calls that are left (SCOPE 6.14, 6.21)
module _ (B B' : Board) (more : AtLeast B B') where
  still_live : (c : ℕ) → Live B c → Live B' c
  still_live c = live_along B B' c (more.cancelled c)

  -- a set that supports itself on B', less the slots of calls cancelled on B
  Left : (ℕ → ℕ → Bool) → ℕ → ℕ → Bool
  Left A c s = A c s && live? B c

  on_same : {r r' : Rule} {c : ℕ} → Same r r' → InScope B r c → InScope B' r' c
  on_same {r} {r'} same o =
      record {
        column = o.column;
        active = active_same B B' r r' o.column same.scope (λ l. rw same.scope at (still_live (call_at r o.column) l)) o.active;
        call = rw same.scope at o.call;
      }

  supported_same : (A : ℕ → ℕ → Bool) (r r' : Rule) → Same r r' → (c s : ℕ) → Live B c → Supported B' (Passing A) r' c s → Supported B (Passing (Left A)) r c s
  unfolding Left
  supported_same A r r' same c s l u =
      let b = same.back u.row u.inside in
      let h = u.holds in
      record {
        row = b.0;
        inside = b.1;
        holds = record {
          column = h.column;
          active = active_same B' B r' r h.column (sym same.scope) (λ x. rw (same.scope, h.call) l) h.active;
          call = rw same.scope h.call;
          slot = rw (← b.2) h.slot;
        };
        within = λ k t.
            →and (A (call_at r k) (slot_at r b.0 k)) (live? B (call_at r k))
            (rw (same.scope, ← b.2) (u.within k (active_same B B' r r' k same.scope (λ l. rw same.scope at (still_live (call_at r k) l)) t)))
            (active_live B r k t);
      }

  pub viable_mono : (c s : ℕ) → Live B c → Viable B' c s → Viable B c s
  unfolding Left
  viable_mono c s l v =
      record {
        set = Left v.set;
        has = →and (v.set c s) (live? B c) v.has l;
        self = record {
          slots = λ c s a. let d = and→ (v.set c s) (live? B c) a in
              live_on B c s d.1 (rw more.counts (on_count B' c s (v.self.slots c s d.0)));
          support = λ c s a p r f o.
              let d = and→ (v.set c s) (live? B c) a in
              let m = more.rules p r f in
              supported_same v.set r m.rule m.same c s d.1 (v.self.support c s d.0 m.number m.rule m.force (on_same m.same o));
        };
      }

-- A RULE WITHOUT ROWS ADMITS NOTHING (SCOPE 1.3): while it is in force no slot of its calls is viable, and where one of its columns is active there is no full plan
module _ (B : Board) (p : ℕ) (r : Rule) (force : InForce B p r) (none_there : length r.rows ≡ 0) where
  pub no_row_closed : (c s : ℕ) → InScope B r c → Viable B c s → ⊥
  no_row_closed c s on v = omega (arith, (v.self.support c s v.has p r force on).inside)

  pub no_row_no_plan : (j : ℕ) → Active B r j → (plan : ℕ → ℕ) → FullPlan B plan → ⊥
  no_row_no_plan j t plan full = omega (arith, (full.keeps p r force j t).1)

-- EVERY SLOT OF A CALL WITHOUT RULES IS OPEN (SCOPE 1.8)
pub free_call : (B : Board) (c : ℕ) → ((p : ℕ) (r : Rule) → InForce B p r → InScope B r c → ⊥) → (s : ℕ) → OnBoard B c s → Viable B c s
free_call B c free s on = viable_of B Own (λ d t. decide_both (eq_or_ne d c) (<? t (slots_on B d))) self c s (refl, on)
  where
    Own : ℕ → ℕ → Type 0
    Own d t = (d ≡ c) × OnBoard B d t

    self : SelfSupporting B Own
    self = record { slots = λ d t o. o.1; support = λ d t o p r f h. absurd (free p r f (rw o.0 at h)) }
