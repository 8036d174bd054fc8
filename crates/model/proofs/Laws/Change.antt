-- WHAT THE STEPS OF A POST, OF A RETRACTION AND OF A CANCELLATION KEEP: striking slots, giving rows killers, and reopening a closed set. Over causes and killers as functions, so
-- that many bytes may change at once. Assumes nothing.
use Rattle.std.specs.Prelude.{◌≡◌, refl, Bool, true, false, cond, ◌≢◌, ◌⊎◌, ℕ, ◌<◌, ◌≤◌, length, get_or, eqb, ltb}
use Rattle.std.proofs.Common.{sym, ◌∙◌, inl, inr, ⊎_elim, arith, eqb→eq, get_or-set_same, get_or-set_other}
use Rattle.std.proofs.Math.Option.{none}
use Rattle.std.proofs.Math.Decide.{dec_lt, ℕ_discrete}
use Rattle.std.proofs.Math.ListN.{get_or-eq_default}
use Rattle.std.proofs.Math.Dec.{eqb_refl}
use Rattle.model.specs.Board.{Rule, Board, call_at, slot_at, cancelled_on?, Cancelled, Live, slots_on, OnBoard, InForce, Active, InScope, Holds, Within, Passing, Viable, Same, AtLeast, Shape}
use Rattle.model.specs.Records.{Struck, KillerIn, Grounded, because, Sound, Recorded, Open}
use Rattle.model.specs.Ledger.{with_rule, cancel_call}
use Rattle.model.specs.Representation.{off_byte}
use Rattle.model.proofs.Laws.Tests.{<?, or→, →or, none_some}
use Rattle.model.proofs.Laws.Theory.{on_live, on_count, live_on, live_not, not_live, live_along, active_below, active_live, active_same, numbered, grounded_out, viable_mono}
use Rattle.model.specs.Changes.{Strikes, Kills, Weaker, Seeds, CauseIs, OwnSlot, ClosedFor, Reopens, Stable}

-- WHAT STAYS GROUNDED on a board that cancels no fewer calls: a set of slots whose calls stay uncancelled, that keep their causes, whose causes stay in
-- force, and whose causes' rows keep their killers, these again in the set
pub keep_grounded : (B B' : Board) (cause cause' killer killer' : ℕ → ℕ → ℕ) (Keep : ℕ → ℕ → Type 0)
    → ((c : ℕ) → Live B' c → Live B c) → ((c s : ℕ) → Keep c s → Live B c → Live B' c)
    → ((c s : ℕ) → Keep c s → (r : Rule) → InForce B (cause c s) r → (cause' c s ≡ cause c s) × InForce B' (cause c s) r)
    → ((c s : ℕ) → Keep c s → (r : Rule) → InForce B (cause c s) r → (w : ℕ) → w < length r.rows → Holds B r w c s → Active B r (killer (cause c s) w)
    → (killer' (cause c s) w ≡ killer (cause c s) w) × Keep (call_at r (killer (cause c s) w)) (slot_at r w (killer (cause c s) w)))
    → {c s : ℕ} → Grounded B cause killer c s → Keep c s → Grounded B' cause' killer' c s
keep_grounded B B' cause cause' killer killer' Keep less kl km kk {c} {s} (because r f o k g) keep =
    let m = km c s keep r f in
    because {c = c} {s = s} r (rw m.0 m.1)
    (record { column = o.column; active = active_same B B' r r o.column refl (λ l. rw o.call (kl c s keep (rw o.call at l))) o.active; call = o.call })
    (λ w h hd.
    let hb = back w hd in
    let q = kk c s keep r f w h hb (k w h hb) in
    rw (m.0, q.0) (active_same B B' r r (killer (cause c s) w) refl (kl (call_at r (killer (cause c s) w)) (slot_at r w (killer (cause c s) w)) q.1) (k w h hb)))
    (λ w h hd. let hb = back w hd in let q = kk c s keep r f w h hb (k w h hb) in
    rw (m.0, q.0) (keep_grounded B B' cause cause' killer killer' Keep less kl km kk (g w h hb) q.1))
  where
    back : (w : ℕ) → Holds B' r w c s → Holds B r w c s
    back w hd = record { column = hd.column; active = active_same B' B r r hd.column refl (less (call_at r hd.column)) hd.active; call = hd.call; slot = hd.slot }

-- a rule's number is below 64, its columns below 4, so neither is 255
pub number_below : (B : Board) → Shape B → (p : ℕ) (r : Rule) → InForce B p r → p < 64
number_below B shape p r f = omega (arith, shape.numbers, numbered B p r f)

pub column_below : (B : Board) → Shape B → (p : ℕ) (r : Rule) → InForce B p r → (k : ℕ) → Active B r k → k < 4
column_below B shape p r f k t = omega (arith, active_below B r k t, (shape.rules p r f).most)

-- where causes and killers only take the place of 255, every grounded slot stays so
pub grow_grounded : (B : Board) → Shape B → (cause cause' killer killer' : ℕ → ℕ → ℕ)
    → ((c s : ℕ) → cause c s ≢ 255 → cause' c s ≡ cause c s) → ((p w : ℕ) → killer p w ≢ 255 → killer' p w ≡ killer p w)
    → {c s : ℕ} → Grounded B cause killer c s → Grounded B cause' killer' c s
grow_grounded B shape cause cause' killer killer' km kk g =
    keep_grounded B B cause cause' killer killer' (λ c s. Unit {0}) (λ c l. l) (λ c s u l. l)
    (λ c s u r f. (km c s (λ e. omega (arith, number_below B shape (cause c s) r f)), f))
    (λ c s u r f w h hd k. (kk (cause c s) w (λ e. omega (arith, column_below B shape (cause c s) r f (killer (cause c s) w) k)), tt))
    g tt

-- a slot of the board lies within the 32 calls and 32 slots of the memory, and so does each slot of a rule's row
pub on_range : (B : Board) → Shape B → (c s : ℕ) → OnBoard B c s → (c < length B.counts) × (c < 32) × (s < 32)
on_range B shape c s h = go (dec_lt c (length B.counts))
  where
    go : Dec (c < length B.counts) → (c < length B.counts) × (c < 32) × (s < 32)
    go (yes l) = (l, omega (arith, shape.calls), omega (arith, on_count B c s h, (shape.counts c l).1))
    go (no n) = let le : length B.counts ≤ c = omega arith in absurd (omega (arith, on_count B c s h, get_or-eq_default B.counts 0 le))

-- the byte of a slot in no set is neither 255 nor a cause
pub off_limits : (B : Board) (c s : ℕ) → (253 ≤ off_byte B c s) × (off_byte B c s ≤ 254)
off_limits B c s = go (ltb s (get_or B.counts c 0))
  where
    go : (b : Bool) → (253 ≤ cond b 253 254) × (cond b 253 254 ≤ 254)
    go true = (omega arith, omega arith)
    go false = (omega arith, omega arith)

-- so a slot whose byte is one of these is on the board, and its call takes part
pub byte_on : (B : Board) (cause : ℕ → ℕ → ℕ) → ((c s : ℕ) → c < 32 → s < 32 → (OnBoard B c s → ⊥) → cause c s ≡ off_byte B c s)
    → (c s : ℕ) → c < 32 → s < 32 → (cause c s ≡ 255) ⊎ (cause c s < 64) → OnBoard B c s
byte_on B cause off c s lc ls d = go (<? s (slots_on B c)) d
  where
    go : OnBoard B c s ⊎ (OnBoard B c s → ⊥) → (cause c s ≡ 255) ⊎ (cause c s < 64) → OnBoard B c s
    go (inl on) d = on
    go (inr n) (inl e) = absurd (omega (arith, off c s lc ls n, (off_limits B c s).1))
    go (inr n) (inr h) = absurd (omega (arith, off c s lc ls n, (off_limits B c s).0))

pub row_on_board : (B : Board) → Shape B → (p : ℕ) (r : Rule) → InForce B p r → (w k : ℕ) → w < length r.rows → Active B r k → OnBoard B (call_at r k) (slot_at r w k)
row_on_board B shape p r f w k lw t = live_on B (call_at r k) (slot_at r w k) (active_live B r k t) ((shape.rules p r f).slots w k lw (active_below B r k t))

-- what is struck stays struck
pub strikes_struck : (B : Board) (p : ℕ) (r : Rule) (killer cause cause' : ℕ → ℕ → ℕ) → Strikes B p r killer cause cause' → (c s : ℕ) → Struck B cause c s → Struck B cause' c s
strikes_struck B p r killer cause cause' st c s h = let lt = h.1 in (h.0, rw (st.kept c s (λ e. omega arith)) h.1)

module _ (B : Board) (shape : Shape B) (p : ℕ) (r : Rule) (f : InForce B p r) (killer cause cause' : ℕ → ℕ → ℕ) (st : Strikes B p r killer cause cause') where
  pub strike_sound : Sound B cause killer → Sound B cause' killer
  strike_sound sound =
      record {
        either = λ c s on. ⊎_elim (λ e. rw e (sound.either c s on)) (λ t. inr (rw t.1 (number_below B shape p r f))) (st.each c s on);
        grounded = λ c s h. ground c s h (st.each c s h.0);
        killers = λ q u g w h. killed q u w (sound.killers q u g w h);
      }
    where
      grow : {c s : ℕ} → Grounded B cause killer c s → Grounded B cause' killer c s
      grow = grow_grounded B shape cause cause' killer killer st.kept (λ q w n. refl)

      killed : (q : ℕ) (u : Rule) (w : ℕ) → (killer q w ≡ 255) ⊎ KillerIn B killer (Struck B cause) u q w → (killer q w ≡ 255) ⊎ KillerIn B killer (Struck B cause') u q w
      killed q u w (inl e) = inl e
      killed q u w (inr k) =
          inr (record { column = k.column; member = strikes_struck B p r killer cause cause' st (call_at u (killer q w)) (slot_at u w (killer q w)) k.member })

      -- the killer of a row of r that holds a slot struck now was struck before, so it is grounded
      from : (w : ℕ) → w < length r.rows → killer p w ≢ 255 → (killer p w ≡ 255) ⊎ KillerIn B killer (Struck B cause) r p w → KillerIn B killer (Grounded B cause killer) r p w
      from w h n (inl e) = absurd (n e)
      from w h n (inr k) = record { column = k.column; member = sound.grounded (call_at r (killer p w)) (slot_at r w (killer p w)) k.member }

      ground : (c s : ℕ) → Struck B cause' c s
          → (cause' c s ≡ cause c s) ⊎ ((cause c s ≡ 255) × (cause' c s ≡ p) × InScope B r c × ((w : ℕ) → w < length r.rows → Holds B r w c s → killer p w ≢ 255))
          → Grounded B cause' killer c s
      ground c s h (inl e) = grow (sound.grounded c s (h.0, rw e at h.1))
      ground c s h (inr t) =
          because {c = c} {s = s} r (rw t.1 f) t.2
          (λ w l hd. rw t.1 (from w l (t.3 w l hd) (sound.killers p r f w l)).column)
          (λ w l hd. rw t.1 (grow (from w l (t.3 w l hd) (sound.killers p r f w l)).member))

pub kill_sound : (B : Board) → Shape B → (cause killer killer' : ℕ → ℕ → ℕ) → Kills B cause killer killer' → Sound B cause killer → Sound B cause killer'
kill_sound B shape cause killer killer' kills sound =
    record {
      either = sound.either;
      grounded = λ c s h. grow_grounded B shape cause cause killer killer' (λ c s n. refl) kills.kept (sound.grounded c s h);
      killers = λ p r f w h. go p r w (sound.killers p r f w h) (kills.each p r f w h);
    }
  where
    go : (p : ℕ) (r : Rule) (w : ℕ) → (killer p w ≡ 255) ⊎ KillerIn B killer (Struck B cause) r p w → (killer' p w ≡ killer p w) ⊎ KillerIn B killer' (Struck B cause) r p w
        → (killer' p w ≡ 255) ⊎ KillerIn B killer' (Struck B cause) r p w
    go p r w old (inr k) = inr k
    go p r w (inl e) (inl q) = inl (q ∙ e)
    go p r w (inr k) (inl q) = inr (record { column = rw q k.column; member = rw q k.member })

-- THE STEP TO A WEAKER BOARD, which a retraction and a cancellation both are
module _ (B B' : Board) (weaker : Weaker B B') where
  pub weaker_live : (c : ℕ) → Live B' c → Live B c
  weaker_live c = live_along B' B c (weaker.cancelled c)

  pub weaker_on : (c s : ℕ) → OnBoard B' c s → OnBoard B c s
  weaker_on c s on = live_on B c s (weaker_live c (on_live B' c s on)) (rw weaker.counts (on_count B' c s on))

  pub on_weaker : (c s : ℕ) → Live B' c → OnBoard B c s → OnBoard B' c s
  on_weaker c s l on = live_on B' c s l (rw weaker.counts at (on_count B c s on))

  same_itself : (r : Rule) → Same r r
  same_itself r = record { scope = refl; there = λ w h. (w, h, refl); back = λ w h. (w, h, refl) }

  -- what is viable on the stronger board is viable on the weaker, on the calls that are left: S is 0
  pub weaker_at_least : AtLeast B' B
  weaker_at_least =
      record {
        counts = sym weaker.counts;
        cancelled = weaker.cancelled;
        rules = λ p r f. record { number = p; rule = r; force = weaker.rules p r f; same = same_itself r };
      }

  pub weaker_viable : (c s : ℕ) → Live B' c → Viable B c s → Viable B' c s
  weaker_viable = viable_mono B' B weaker_at_least

  -- OUTSIDE A CLOSED SET the struck slots stay grounded on the weaker board
  module _ (shape : Shape B) (Seed Z : ℕ → ℕ → Type 0) (cause killer : ℕ → ℕ → ℕ) (seeds : Seeds B B' cause Seed) (closed : ClosedFor B Seed cause killer Z) (sound : Sound B cause killer) where
    Keep : ℕ → ℕ → Type 0
    Keep c s = Struck B cause c s × (Z c s → ⊥)

    -- the call of a struck slot outside the set stays uncancelled
    left : (c s : ℕ) → Struck B cause c s → (Z c s → ⊥) → Live B' c
    left c s h n = seeds.live c s h (λ x. n (closed.seed c s h x))

    -- such a slot is grounded as it was: its cause's rows keep their killers, and these are outside too
    still : (cause' killer' : ℕ → ℕ → ℕ) → ((c s : ℕ) → OnBoard B' c s → (Z c s → ⊥) → cause' c s ≡ cause c s)
        → ((q : ℕ) (r : Rule) → InForce B' q r → (w : ℕ) → w < length r.rows → (KillerIn B killer Z r q w → ⊥) → killer' q w ≡ killer q w)
        → {c s : ℕ} → Grounded B cause killer c s → Struck B cause c s → (Z c s → ⊥) → Grounded B' cause' killer' c s
    unfolding Keep
    still cause' killer' kept same g h n =
        keep_grounded B B' cause cause' killer killer' Keep weaker_live (λ c s k l. left c s k.0 k.1)
        (λ c s k r f. (kept c s (on_weaker c s (left c s k.0 k.1) k.0.0) k.1, force c s k r f))
        (λ c s k r f w lw hd lk.
        let q = cause c s in
        let out : KillerIn B killer Z r q w → ⊥ = λ z. k.1 (closed.more c s k.0 r f w lw hd z) in (
          same q r (force c s k r f) w lw out,
          (struck q r f w lw lk (sound.killers q r f w lw), λ z. out (record { column = lk; member = z })),
        ))
        g (h, n)
      where
        force : (c s : ℕ) → Struck B cause c s × (Z c s → ⊥) → (r : Rule) → InForce B (cause c s) r → InForce B' (cause c s) r
        force c s k = seeds.force c s k.0 (λ x. k.1 (closed.seed c s k.0 x))

        struck : (q : ℕ) (r : Rule) → InForce B q r → (w : ℕ) → w < length r.rows → Active B r (killer q w) → (killer q w ≡ 255) ⊎ KillerIn B killer (Struck B cause) r q w
            → Struck B cause (call_at r (killer q w)) (slot_at r w (killer q w))
        struck q r f w lw lk (inl e) = absurd (omega (arith, column_below B shape q r f (killer q w) lk))
        struck q r f w lw lk (inr k) = k.member

    -- so a struck slot that is viable on the weaker board is in the set: R is at most T
    pub reopened_in : (c s : ℕ) → Struck B cause c s → Viable B' c s → (Z c s → ⊥) → ⊥
    reopened_in c s h v n =
        grounded_out B' cause killer (still cause killer (λ d t on out. refl) (λ q r f w lw out. refl) (sound.grounded c s h) h n) (Passing v.set) v.self v.has

  -- THE REOPENING OF A CLOSED SET KEEPS THE RECORDS SOUND, on the weaker board
  module _ (shape : Shape B) (Seed Z : ℕ → ℕ → Type 0) (test : (c s : ℕ) → Z c s ⊎ (Z c s → ⊥)) (cause cause' killer killer' : ℕ → ℕ → ℕ)
      (seeds : Seeds B B' cause Seed) (closed : ClosedFor B Seed cause killer Z) (re : Reopens B B' Z cause cause' killer killer') (sound : Sound B cause killer) where
    pub reopen_sound : Sound B' cause' killer'
    reopen_sound =
        record {
          either = λ c s on. ⊎_elim (λ z. inl (re.opened c s on z)) (λ n. rw (re.kept c s on n) (sound.either c s (weaker_on c s on))) (test c s);
          grounded = λ c s h. ground c s h (test c s);
          killers = λ q r f w lw. killed q r f w lw (sound.killers q r (weaker.rules q r f) w lw);
        }
      where
        ground : (c s : ℕ) → Struck B' cause' c s → Z c s ⊎ (Z c s → ⊥) → Grounded B' cause' killer' c s
        ground c s h (inl z) = let lt = h.1 in absurd (omega (arith, re.opened c s h.0 z))
        ground c s h (inr n) =
            let k : Struck B cause c s = (weaker_on c s h.0, rw (re.kept c s h.0 n) at h.1) in
            still shape Seed Z cause killer seeds closed sound cause' killer' re.kept re.same (sound.grounded c s k) k n

        killed : (q : ℕ) (r : Rule) → InForce B' q r → (w : ℕ) → w < length r.rows → (killer q w ≡ 255) ⊎ KillerIn B killer (Struck B cause) r q w
            → (killer' q w ≡ 255) ⊎ KillerIn B' killer' (Struck B' cause') r q w
        killed q r f w lw (inl e) = inl (re.same q r f w lw (λ k. omega (arith, column_below B shape q r (weaker.rules q r f) (killer q w) k.column)) ∙ e)
        killed q r f w lw (inr k) = go (test (call_at r (killer q w)) (slot_at r w (killer q w)))
          where
            go : Z (call_at r (killer q w)) (slot_at r w (killer q w)) ⊎ (Z (call_at r (killer q w)) (slot_at r w (killer q w)) → ⊥)
                → (killer' q w ≡ 255) ⊎ KillerIn B' killer' (Struck B' cause') r q w
            go (inl z) = inl (re.revived q r f w lw (record { column = k.column; member = z }))
            go (inr nz) =
                let e = re.same q r f w lw (λ u. nz u.member) in
                let m = k.member in
                let l = left shape Seed Z cause killer seeds closed sound (call_at r (killer q w)) (slot_at r w (killer q w)) m nz in
                let on = on_weaker (call_at r (killer q w)) (slot_at r w (killer q w)) l m.0 in
                inr (record {
                  column = rw e (active_same B B' r r (killer q w) refl (λ x. l) k.column);
                  member = rw e (on, rw (re.kept (call_at r (killer q w)) (slot_at r w (killer q w)) on nz) m.1);
                })

    -- a rule that is stable stays so where the set has no slot in the columns that count: only rules on touched calls are pending
    pub reopen_stable : (p : ℕ) (r : Rule) → InForce B' p r → ((k : ℕ) → Active B r k → (s : ℕ) → Z (call_at r k) s → ⊥) → Stable B cause killer p r → Stable B' cause' killer' p r
    reopen_stable p r f clear st =
        record {
          alive = λ w lw e k t.
              let b = before k t in
              let o = st.alive w lw (sym (same w lw) ∙ e) k b in
              let on = on_weaker (call_at r k) (slot_at r w k) (active_live B' r k t) o.0 in
              (on, re.kept (call_at r k) (slot_at r w k) on (clear k b (slot_at r w k)) ∙ o.1);
          held = λ c s o h.
              let b = before h.column h.active in
              let out : Z c s → ⊥ = rw h.call at (clear h.column b s) in
              let x = st.held c s (weaker_on c s o.0, sym (re.kept c s o.0 out) ∙ o.1) (record { column = h.column; active = b; call = h.call }) in
              let d = x.3 in (
                x.0,
                x.1,
                same x.0 x.1 ∙ x.2,
                record { column = d.column; active = active_same B B' r r d.column refl (λ l. rw d.call (on_live B' c s o.0)) d.active; call = d.call; slot = d.slot },
              );
        }
      where
        before : (k : ℕ) → Active B' r k → Active B r k
        before k = active_same B' B r r k refl (weaker_live (call_at r k))

        same : (w : ℕ) → w < length r.rows → killer' p w ≡ killer p w
        same w lw = re.same p r f w lw (λ z. clear (killer p w) z.column (slot_at r w (killer p w)) z.member)

-- A RETRACTION: the rule under p leaves force, and the seed is what it caused. The rules in force without it
pub retracted_from : (B : Board) → Shape B → (p : ℕ) → p < 64 → (q : ℕ) (r : Rule) → InForce (with_rule B p none) q r → (q ≢ p) × InForce B q r
retracted_from B shape p lp q r f = go (ℕ_discrete q p)
  where
    go : Dec (q ≡ p) → (q ≢ p) × InForce B q r
    go (yes e) = none_some (sym (get_or-set_same B.rules p none none (omega (arith, shape.numbers))) ∙ (rw e at f))
    go (no n) = (n, sym (get_or-set_other B.rules p q none none n) ∙ f)

pub still_in_force : (B : Board) (p q : ℕ) (r : Rule) → q ≢ p → InForce B q r → InForce (with_rule B p none) q r
still_in_force B p q r n f = get_or-set_other B.rules p q none none n ∙ f

pub retract_weaker : (B : Board) → Shape B → (p : ℕ) → p < 64 → Weaker B (with_rule B p none)
retract_weaker B shape p lp = record { counts = refl; cancelled = λ c g. g; rules = λ q r f. (retracted_from B shape p lp q r f).1 }

pub retract_seeds : (B : Board) (p : ℕ) (cause : ℕ → ℕ → ℕ) → Seeds B (with_rule B p none) cause (CauseIs cause p)
retract_seeds B p cause = record { force = λ c s h n r f. still_in_force B p (cause c s) r n f; live = λ c s h n. on_live B c s h.0 }

-- A CANCELLATION: call d is cancelled, and the seed is its own slots
pub cancelled_itself : (B : Board) (d : ℕ) → Cancelled (cancel_call B d) d
cancelled_itself B d = →or (eqb d d) (cancelled_on? B d) (inl (eqb_refl d))

pub cancel_live : (B : Board) (d c : ℕ) → Live B c → c ≢ d → Live (cancel_call B d) c
cancel_live B d c l n = not_live (cancel_call B d) c (λ g. ⊎_elim (λ e. n (sym (eqb→eq d c e))) (λ h. live_not B c l h) (or→ (eqb d c) (cancelled_on? B c) g))

pub cancel_weaker : (B : Board) (d : ℕ) → Weaker B (cancel_call B d)
cancel_weaker B d = record { counts = refl; cancelled = λ c g. →or (eqb d c) (cancelled_on? B c) (inr g); rules = λ q r f. f }

pub cancel_seeds : (B : Board) (d : ℕ) (cause : ℕ → ℕ → ℕ) → Seeds B (cancel_call B d) cause (OwnSlot d)
cancel_seeds B d cause = record { force = λ c s h n r f. f; live = λ c s h n. cancel_live B d c (on_live B c s h.0) n }

-- the slots of a cancelled call are neither open nor struck, whatever their bytes
pub cancelled_neither : (B : Board) (cause : ℕ → ℕ → ℕ) (c s : ℕ) → Cancelled B c → (Open B cause c s → ⊥) × (Struck B cause c s → ⊥)
cancelled_neither B cause c s g = (λ o. live_not B c (on_live B c s o.0) g, λ h. live_not B c (on_live B c s h.0) g)

-- sound records of which every rule is stable are those of a command that is done, and the other way round
pub stable_recorded : (B : Board) (cause killer : ℕ → ℕ → ℕ) → Sound B cause killer → ((p : ℕ) (r : Rule) → InForce B p r → Stable B cause killer p r) → Recorded B cause killer
stable_recorded B cause killer sound stable =
    record {
      sound = sound;
      self = record {
        slots = λ c s o. o.0;
        support = λ c s o p r f h. let x = (stable p r f).held c s o h in
            record { row = x.0; inside = x.1; holds = x.3; within = (stable p r f).alive x.0 x.1 x.2 };
      };
      alive = λ p r f. (stable p r f).alive;
    }

pub recorded_stable : (B : Board) (cause killer : ℕ → ℕ → ℕ) → Recorded B cause killer → (p : ℕ) (r : Rule) → InForce B p r → Stable B cause killer p r
recorded_stable B cause killer known p r f =
    record {
      alive = known.alive p r f;
      held = λ c s o h. let u = known.self.support c s o p r f h in
          (u.row, u.inside, living u.row u.within (known.sound.killers p r f u.row u.inside), u.holds);
    }
  where
    living : (w : ℕ) → Within B (Open B cause) r w → (killer p w ≡ 255) ⊎ KillerIn B killer (Struck B cause) r p w → killer p w ≡ 255
    living w a (inl e) = e
    living w a (inr k) = let lt = k.member.1 in absurd (omega (arith, (a (killer p w) k.column).1))
