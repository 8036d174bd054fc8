-- WHAT A RELAXATION MEANS ON A BOARD, for any step to a weaker board: the touched slots are the smallest closed set, and their reopening keeps the records sound on that board. A
-- retraction and a cancellation are its two uses; they differ in the seed and in what else they write. Assumes nothing.
use Rattle.std.specs.Prelude.{◌≡◌, refl, List, ◌⊎◌, Bool, false, ℕ, ◌+◌, ◌*◌, ◌/◌, ◌%◌, ◌≤◌, ◌<◌, min, length, get_or, T, ltb}
use Rattle.std.proofs.Common.{◌∙◌, inl, inr, ⊎_elim, arith, eqb→eq, ltb→lt, lt→ltb}
use Rattle.std.proofs.Math.ListN.{get_or-eq_default}
use Rattle.layout.specs.declared.value.Heads.{Heads}
use Rattle.model.specs.Board.{Rule, Board, call_at, slot_at, cancelled_on?, Cancelled, Live, OnBoard, InForce, Holds, Passing, Shape}
use Rattle.model.specs.Records.{Struck, KillerIn, RingAt, Sound, Recorded}
use Rattle.model.specs.Changes.{Weaker, Seeds, ClosedFor, Smallest, Reopens}
use Rattle.model.specs.Report.{struck_between}
use Rattle.model.specs.Representation.{rule_at, off_byte, Stored}
use Rattle.model.proofs.Laws.Tests.{T?, and→, →and, →T, T→}
use Rattle.model.proofs.Laws.Theory.{live_not, not_live, on_live, active_below, below_active, rings_empty}
use Rattle.model.proofs.Laws.Change.{number_below, on_range, byte_on, off_limits, weaker_viable, reopen_sound}
use Rattle.filter_propagate.specs.Rules.{RuleBytes}
use Rattle.filter_propagate.specs.Queue.{IsFlagged}
use Rattle.filter_support.specs.Strikes.{is_open, is_struck}
use Rattle.filter_relax.specs.Reach.{seed, joins}
use Rattle.filter_relax.specs.Touched.{NoOwnKill, Justifies, Touched}
use Rattle.filter_relax.specs.Relaxed.{Relaxed}
use Rattle.filter_relax.proofs.Laws.Reach.{reach_in}
use Rattle.filter_relax.proofs.Laws.Relaxed.{touched_struck}
use Rattle.layout.specs.Places.{row_cell, rows_of, cause_of, killer_of, slot_place}
use Rattle.layout.specs.Sizes.{slots_length}
use Rattle.tables.specs.Laws.Facts.{true_or_false, true_false, lt_or_le}
use Rattle.filter_meaning.specs.Rules.{RulesOf}
use Rattle.filter_meaning.specs.Relaxing.{Visited, visited_test}
use Rattle.filter_meaning.specs.Laws.Rules.{in_force_lem, read_as}
use Rattle.filter_meaning.specs.Laws.Counts.{none_counted}

pub visited? : (visited : List Bool) (c s : ℕ) → Visited visited c s ⊎ (Visited visited c s → ⊥)
visited? visited c s = ⊎_elim (λ e. inl e) (λ e. inr (λ f. true_false f e)) (true_or_false (get_or visited (32 * c + s) false))

module _ (B : Board) (shape : Shape B) (R : RuleBytes) (known : RulesOf B R) (killers slots : List ℕ) (rec : Recorded B (cause_of slots) (killer_of killers)) where
  -- no rule kills its own rows by its own strikes: the killer's slot would be a ring by itself
  pub no_own_kill : NoOwnKill R killers slots
  no_own_kill q w lq lw lk e =
      let x = in_force_lem B shape R known q (killer_of killers q w) lq lk in
      let r = x.0 in
      let b = read_as B shape R known q r x.1 in
      let lk' : killer_of killers q w < length r.scope = omega (arith, b.columns) in
      let lw' : w < length r.rows = omega (arith, b.rows) in
      alone q r x.1 w lw' lk' (rw (b.place w (killer_of killers q w) lw' lk') at e) (rec.sound.killers q r x.1 w lw')
    where
      alone : (q : ℕ) (r : Rule) → InForce B q r → (w : ℕ) → w < length r.rows → killer_of killers q w < length r.scope
          → cause_of slots (call_at r (killer_of killers q w)) (slot_at r w (killer_of killers q w)) ≡ q
          → (killer_of killers q w ≡ 255) ⊎ KillerIn B (killer_of killers) (Struck B (cause_of slots)) r q w → ⊥
      alone q r f w lw lk e (inl z) = omega (arith, (shape.rules q r f).most)
      alone q r f w lw lk e (inr k) =
          rings_empty B (cause_of slots) (killer_of killers) rec Own
          (record { call = c; slot = s; member = (refl, refl); each = λ d u o. rw (o.0, o.1) ring })
        where
          c : ℕ
          c = call_at r (killer_of killers q w)

          s : ℕ
          s = slot_at r w (killer_of killers q w)

          Own : ℕ → ℕ → Type 0
          Own d u = (d ≡ call_at r (killer_of killers q w)) × (u ≡ slot_at r w (killer_of killers q w))

          ring : RingAt B (cause_of slots) (killer_of killers) Own (call_at r (killer_of killers q w)) (slot_at r w (killer_of killers q w))
          ring =
              record {
                struck = k.member;
                rule = r;
                force = rw e f;
                row = w;
                inside = lw;
                holds = record { column = killer_of killers q w; active = k.column; call = refl; slot = refl };
                killed = rw e (record { column = k.column; member = (refl, refl) });
              }

  -- from a seed of struck slots, over the bytes and on the board
  module _ (Bytes : ℕ → Type 0) (Seed : ℕ → ℕ → Type 0) (struck : (j : ℕ) → Bytes j → get_or slots j 0 < 64)
      (seeded : (c s : ℕ) → Struck B (cause_of slots) c s → Seed c s → Bytes (slot_place c s)) {t : ℕ} {revived opened : List ℕ} {visited pending : List Bool}
      (x : Relaxed R Bytes t killers revived slots opened visited pending) where
    -- a visited slot was struck
    pub visited_were_struck : (j : ℕ) → IsFlagged visited j → get_or slots j 0 < 64
    visited_were_struck j f = ⊎_elim (struck j) (λ h. h) (touched_struck R killers slots (x.touched j f))

    -- so a byte off the board stays
    pub relaxed_off : ((c s : ℕ) → c < 32 → s < 32 → (OnBoard B c s → ⊥) → cause_of slots c s ≡ off_byte B c s) → (c s : ℕ) → c < 32 → s < 32 → (OnBoard B c s → ⊥)
        → cause_of opened c s ≡ off_byte B c s
    relaxed_off off c s lc ls n =
        let e = off c s lc ls n in
        x.slot_kept (32 * c + s) (λ f. above (cause_of slots c s) (off_byte B c s) e (off_limits B c s).0 (visited_were_struck (32 * c + s) f)) ∙ e
      where
        above : (b o : ℕ) → b ≡ o → 253 ≤ o → b < 64 → ⊥
        above b o e l h = omega arith

    -- and so does the killer's byte of a row that there is not
    pub relaxed_spare : ((q w : ℕ) → q < 64 → w < 64 → length (rule_at B q).rows ≤ w → killer_of killers q w ≡ 255) → (q w : ℕ) → q < 64 → w < 64
        → length (rule_at B q).rows ≤ w → killer_of revived q w ≡ 255
    relaxed_spare spare q w lq lw le =
        x.row_kept q w lq lw (λ f. beyond (rows_of R.lengths q) (get_or R.lengths q 0) (length (rule_at B q).rows) w refl (known.lengths q lq) le f.row) ∙ spare q w lq lw le
      where
        beyond : (m l k w : ℕ) → m ≡ min l 64 → l ≡ k → k ≤ w → w < m → ⊥
        beyond m l k w e g h lt = omega arith

    -- THE VISITED SLOTS ARE CLOSED
    pub visited_closed : ClosedFor B Seed (cause_of slots) (killer_of killers) (Visited visited)
    visited_closed =
        record {
          seed = λ c s h e. x.all_touched no_own_kill (32 * c + s) (seed (seeded c s h e));
          more = λ c s h r f w lw hd k. x.all_touched no_own_kill (32 * c + s) (joined c s h r f w lw hd k);
        }
      where
        joined : (c s : ℕ) → Struck B (cause_of slots) c s → (r : Rule) → InForce B (cause_of slots c s) r → (w : ℕ) → w < length r.rows → Holds B r w c s
            → KillerIn B (killer_of killers) (Visited visited) r (cause_of slots c s) w → Touched R killers slots Bytes (32 * c + s)
        joined c s h r f w lw hd k =
            let q = cause_of slots c s in
            let b = read_as B shape R known q r f in
            let lk = active_below B r (killer_of killers q w) k.column in
            let lh = active_below B r hd.column hd.active in
            let held : 32 * c + s ≡ row_cell R.rows R.scope q w hd.column = rw (b.place w hd.column lw lh, hd.call, hd.slot) refl in
            let here : IsFlagged visited (row_cell R.rows R.scope q w (killer_of killers q w)) = rw (b.place w (killer_of killers q w) lw lk) k.member in
            joins (x.touched (row_cell R.rows R.scope q w (killer_of killers q w)) here)
            (record {
              rule = q;
              number = b.number;
              by = record {
                row = w;
                inside = omega (arith, b.rows);
                by = record {
                  held = (hd.column, omega (arith, b.columns), record { is = held; cause = refl });
                  column = omega (arith, b.columns);
                  killer = refl;
                };
              };
            })

    -- AND THEY ARE THE SMALLEST CLOSED SET, where the bytes' seed is the board's
    module _ (off : (c s : ℕ) → c < 32 → s < 32 → (OnBoard B c s → ⊥) → cause_of slots c s ≡ off_byte B c s)
        (begins : (j : ℕ) → Bytes j → Struck B (cause_of slots) (j / 32) (j % 32) × Seed (j / 32) (j % 32)) where
      -- a slot of a row whose cause is the row's rule joins by the row's killer
      joins_by : (Z : ℕ → ℕ → Type 0) → ClosedFor B Seed (cause_of slots) (killer_of killers) Z → (q : ℕ) (r : Rule) → InForce B q r → (w k : ℕ) → w < length r.rows → k < length r.scope
          → killer_of killers q w < length r.scope → slot_at r w k < 32 → cause_of slots (call_at r k) (slot_at r w k) ≡ q
          → Z (call_at r (killer_of killers q w)) (slot_at r w (killer_of killers q w)) → Z (call_at r k) (slot_at r w k)
      joins_by Z closed q r f w k lw lk lx ls e z =
          let lq = number_below B shape q r f in
          let b = read_as B shape R known q r f in
          let lt : cause_of slots (call_at r k) (slot_at r w k) < 64 = omega arith in
          let on = byte_on B (cause_of slots) off (call_at r k) (slot_at r w k) (b.call_below k lk) ls (inr lt) in
          let active = ⊎_elim (λ d. absurd (omega (arith, d, (shape.rules q r f).most))) (λ v. v.column) (rec.sound.killers q r f w lw) in
          closed.more (call_at r k) (slot_at r w k) (on, lt) r (rw e f) w lw
          (record { column = k; active = below_active B r k lk (on_live B (call_at r k) (slot_at r w k) on); call = refl; slot = refl })
          (rw e (record { column = active; member = z }))

      -- so a justified strike joins where the one that justifies it is in the set
      justified : (Z : ℕ → ℕ → Type 0) → ClosedFor B Seed (cause_of slots) (killer_of killers) Z → (i j : ℕ) → Justifies R killers slots i j → Z (i / 32) (i % 32) → Z (j / 32) (j % 32)
      justified Z closed i j p z =
          let q = p.rule in
          let w = p.by.row in
          let y = p.by.by in
          let k = y.held.0 in
          let x = killer_of killers q w in
          let u = in_force_lem B shape R known q k p.number y.held.1 in
          let r = u.0 in
          let b = read_as B shape R known q r u.1 in
          let good = shape.rules q r u.1 in
          let lw : w < length r.rows = omega (arith, p.by.inside, b.rows) in
          let lk : k < length r.scope = omega (arith, y.held.1, b.columns) in
          let lx : x < length r.scope = omega (arith, y.column, b.columns) in
          let ls : slot_at r w k < 32 = omega (arith, good.slots w k lw lk, (shape.counts (call_at r k) (good.scope k lk)).1) in
          let lt : slot_at r w x < 32 = omega (arith, good.slots w x lw lx, (shape.counts (call_at r x) (good.scope x lx)).1) in
          let there : j ≡ slot_place (call_at r k) (slot_at r w k) = y.held.2.is ∙ b.place w k lw lk in
          let from : i ≡ slot_place (call_at r x) (slot_at r w x) = y.killer ∙ b.place w x lw lx in
          let cause : cause_of slots (call_at r k) (slot_at r w k) ≡ q = rw there at y.held.2.cause in
          let jc : j / 32 ≡ call_at r k = omega arith in
          let js : j % 32 ≡ slot_at r w k = omega arith in
          let ic : i / 32 ≡ call_at r x = omega arith in
          let is : i % 32 ≡ slot_at r w x = omega arith in
          rw (jc, js) (joins_by Z closed q r u.1 w k lw lk lx ls cause (rw (ic, is) at z))

      -- and what is touched is in every closed set, also in one that has no test
      pub visited_least : (Z : ℕ → ℕ → Type 0) → ClosedFor B Seed (cause_of slots) (killer_of killers) Z → (c s : ℕ) → s < 32 → Visited visited c s → Z c s
      visited_least Z closed c s ls f =
          let ic : (32 * c + s) / 32 ≡ c = omega arith in
          let is : (32 * c + s) % 32 ≡ s = omega arith in
          rw (ic, is) at
          (reach_in (λ j. Z (j / 32) (j % 32)) (λ j y. let d = begins j y in closed.seed (j / 32) (j % 32) d.0 d.1) (justified Z closed) (x.touched (32 * c + s) f))

      pub visited_smallest : Smallest B Seed (cause_of slots) (killer_of killers) (visited_test visited)
      visited_smallest =
          record {
            closed = record {
              seed = λ c s h e. tests c s (on_range B shape c s h.0).2 (visited_closed.seed c s h e);
              more = λ c s h r f w lw hd k.
                  tests c s (on_range B shape c s h.0).2
                  (visited_closed.more c s h r f w lw hd
                  (record { column = k.column; member = (told (call_at r (killer_of killers (cause_of slots c s) w)) (slot_at r w (killer_of killers (cause_of slots c s) w)) k.member).1 }));
            };
            least = λ g closed c s t. let v = told c s t in visited_least (Passing g) closed c s v.0 v.1;
          }
        where
          tests : (c s : ℕ) → s < 32 → Visited visited c s → T (visited_test visited c s)
          tests c s ls f = →and (ltb s 32) (get_or visited (32 * c + s) false) (lt→ltb s 32 ls) (→T (get_or visited (32 * c + s) false) f)

          told : (c s : ℕ) → T (visited_test visited c s) → (s < 32) × Visited visited c s
          told c s t = let b = and→ (ltb s 32) (get_or visited (32 * c + s) false) t in (ltb→lt s 32 b.0, T→ (get_or visited (32 * c + s) false) b.1)

    -- a row's killer is visited over the bytes exactly where its slot is on the board
    freed_killer : (q : ℕ) (r : Rule) → InForce B q r → (w : ℕ) → w < length r.rows → KillerIn B (killer_of killers) (Visited visited) r q w → killer_of revived q w ≡ 255
    freed_killer q r f w lw k =
        let b = read_as B shape R known q r f in
        let lk = active_below B r (killer_of killers q w) k.column in
        x.row_revived q w b.number (omega (arith, (shape.rules q r f).few))
        (record {
          row = omega (arith, b.rows);
          killer = record { column = omega (arith, b.columns); slot = rw (b.place w (killer_of killers q w) lw lk) k.member };
        })

    kept_killer : (q : ℕ) (r : Rule) → InForce B q r → (w : ℕ) → w < length r.rows → (KillerIn B (killer_of killers) (Visited visited) r q w → ⊥) → killer_of revived q w ≡ killer_of killers q w
    kept_killer q r f w lw n =
        let b = read_as B shape R known q r f in
        x.row_kept q w b.number (omega (arith, (shape.rules q r f).few))
        (λ d.
        let z = d.killer in
        let lk : killer_of killers q w < length r.scope = let l = z.column in omega (arith, b.columns) in
        let active = ⊎_elim (λ e. absurd (omega (arith, e, (shape.rules q r f).most))) (λ k. k.column) (rec.sound.killers q r f w lw) in
        n (record { column = active; member = rw (b.place w (killer_of killers q w) lw lk) at z.slot }))

    -- THEIR REOPENING IS THE MODEL'S, on a weaker board of which slots and killers are left as it leaves them
    module _ (B' : Board) (weaker : Weaker B B') (left emptied : List ℕ) (slots-left : (c s : ℕ) → OnBoard B' c s → cause_of left c s ≡ cause_of opened c s)
        (killers-left : (q w : ℕ) (r : Rule) → InForce B' q r → w < 64 → killer_of emptied q w ≡ killer_of revived q w) where
      visited_reopen : Reopens B B' (Visited visited) (cause_of slots) (cause_of left) (killer_of killers) (killer_of emptied)
      visited_reopen =
          record {
            opened = λ c s on f. slots-left c s on ∙ x.slot_opened (32 * c + s) f;
            kept = λ c s on n. slots-left c s on ∙ x.slot_kept (32 * c + s) n;
            revived = λ q r f w lw k. let b = weaker.rules q r f in killers-left q w r f (omega (arith, (shape.rules q r b).few)) ∙ freed_killer q r b w lw k;
            same = λ q r f w lw out. let b = weaker.rules q r f in killers-left q w r f (omega (arith, (shape.rules q r b).few)) ∙ kept_killer q r b w lw out;
          }

      -- and it keeps the records sound there
      pub relaxed_sound : Seeds B B' (cause_of slots) Seed → Sound B' (cause_of left) (killer_of emptied)
      relaxed_sound seeds =
          reopen_sound B B' weaker shape Seed (Visited visited) (visited? visited) (cause_of slots) (cause_of left) (killer_of killers) (killer_of emptied) seeds visited_closed
          visited_reopen rec.sound

-- WHERE NO STRUCK SLOT IS IN THE SEED nothing reopens, and the records stay sound
pub quiet_sound : (B B' : Board) → Weaker B B' → Shape B → (Seed : ℕ → ℕ → Type 0) (cause cause' killer killer' : ℕ → ℕ → ℕ) → Seeds B B' cause Seed
    → ((c s : ℕ) → Struck B cause c s → Seed c s → ⊥) → ((c s : ℕ) → OnBoard B' c s → cause' c s ≡ cause c s)
    → ((q w : ℕ) (r : Rule) → InForce B' q r → w < 64 → killer' q w ≡ killer q w) → Sound B cause killer → Sound B' cause' killer'
quiet_sound B B' weaker shape Seed cause cause' killer killer' seeds none slots-left killers-left sound =
    reopen_sound B B' weaker shape Seed (λ c s. ⊥) (λ c s. inr (λ z. z)) cause cause' killer killer' seeds
    (record { seed = none; more = λ c s h r f w lw hd k. k.member })
    (record {
      opened = λ c s on z. absurd z;
      kept = λ c s on n. slots-left c s on;
      revived = λ q r f w lw k. absurd k.member;
      same = λ q r f w lw out. killers-left q w r f (omega (arith, (shape.rules q r (weaker.rules q r f)).few));
    })
    sound

-- S IS 0: a slot that is open on a board is open on a weaker one, or its call is cancelled there
module _ (B B' : Board) (weaker : Weaker B B') {h h' : Heads} {rows rows' killers killers' slots slots' : List ℕ} (stored : Stored B h rows killers slots)
    (stored' : Stored B' h' rows' killers' slots') where
  open_not_closed : (c s : ℕ) → c < 32 → s < 32 → cause_of slots c s ≡ 255 → cause_of slots' c s < 64 → ⊥
  open_not_closed c s lc ls e lt = ⊎_elim gone (λ n. stays (not_live B' c n)) (T? (cancelled_on? B' c))
    where
      gone : Cancelled B' c → ⊥
      gone g = omega (arith, stored'.off c s lc ls (λ on. live_not B' c (on_live B' c s on) g), (off_limits B' c s).0)

      stays : Live B' c → ⊥
      stays l = omega (arith, (stored'.viable c s lc ls).1 (weaker_viable B B' weaker c s l ((stored.viable c s lc ls).0 e)))

  pub open_not_struck_after : (j : ℕ) → get_or slots j 0 ≡ 255 → get_or slots' j 0 < 64 → ⊥
  open_not_struck_after j e lt = ⊎_elim inside past (lt_or_le j slots_length)
    where
      inside : j < slots_length → ⊥
      inside l =
          let at : 32 * (j / 32) + j % 32 ≡ j = omega arith in
          open_not_closed (j / 32) (j % 32) (omega arith) (omega arith) (rw at e) (rw at lt)

      past : slots_length ≤ j → ⊥
      past le = omega (arith, get_or-eq_default slots 0 {n = j} (omega (arith, stored.slots_size)))

  pub none_struck_between : struck_between slots slots' ≡ 0
  none_struck_between =
      none_counted is_open is_struck slots slots' (λ j o h. open_not_struck_after j (eqb→eq (get_or slots j 0) 255 o) (ltb→lt (get_or slots' j 0) 64 h))
