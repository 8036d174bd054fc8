-- THE QUESTIONS' EQUATIONS SAY WHAT THEIR ANSWERS MEAN: on a state that is a ledger's, the checks off the value are the conditions off the ledger, and the
-- bytes that an answer is read off are what the board's records say. Assumes nothing.
use Rattle.std.specs.Prelude.{◌≡◌, refl, Bool, true, false, ◌||◌, cond, [], ◌∷◌, ◌↔◌, ◌⊎◌, ℕ, zero, suc, ◌+◌, ◌*◌, ◌<◌, ◌≤◌, length, get_or, drop, T, eqb, ltb, leb, Option, Some, None, Result, Ok, Err}
use Rattle.std.proofs.Common.{sym, ap, subst, ◌∙◌, true≢false, inl, inr, ⊎_elim, arith, eq-or-lt_of_le, le_of_suc-le-suc, length-drop, get_or-take, get_or-drop, length-take-le, eqb→eq, eqb-true, ltb-false, leb-false, lt-ltb, le-ltb, le-leb, eq-eqb, ne_eqb}
use Rattle.std.proofs.Math.Option.{none, some}
use Rattle.std.proofs.Math.Option as kept
use Rattle.std.proofs.Math.ListN.{get_or-eq_default}
use Rattle.std.proofs.lemmas.Bool.{lt-leb}
use Rattle.model.specs.declared.answer.OpenSlots.{OpenSlots}
use Rattle.model.specs.declared.answer.SlotState.{SlotState}
use Rattle.model.specs.declared.answer.SlotState.TheVariants as state
use Rattle.model.specs.declared.answer.RowState.TheVariants as row
use Rattle.model.specs.declared.answer.RowState.{RowState}
use Rattle.model.specs.declared.refusal.Refusal.{Refusal}
use Rattle.model.specs.Board.{Rule, Board, call_at, slot_at, cancelled_on?, Cancelled, OnBoard, InForce, Active, Viable, Alive, Dead, Shape}
use Rattle.model.specs.Records.{Struck, Caused, KillerIn, Recorded}
use Rattle.model.specs.Tests.{some?, count_below, first, is_none}
use Rattle.model.specs.Ledger.{Ledger, LedgerShape, no_board?, not_in_force?}
use Rattle.model.specs.Report.{open?}
use Rattle.model.specs.Promise.{values_at}
use Rattle.model.specs.Representation.{rule_or, rule_at, no_calls?, Represents}
use Rattle.model.specs.Questions.{call_conditions, slot_conditions, row_conditions, support_conditions, slots_held, call_checks, slot_checks, row_checks, support_checks, mask_of, slots_values, bit?, slots_shown, SlotsMeans, SlotsPromise, state_values, state_shown, StateMeans, StatePromise, row_values, row_shown, RowMeans, RowPromise, bytes_by, row_bytes_answer, RowBytesPromise, support_values, supports?, column_cancelled?, support_row, found_row, found_value, support_shown, SupportingRow, SupportMeans, SupportValueMeans, SupportPromise}
use Rattle.model.proofs.Laws.Tests.{T?, not→, or_false, and→, →and, →T, T→, →some, →eqb, none_passes, count_same, count_none}
use Rattle.model.proofs.Laws.Theory.{live_on, live_not, not_live, active_live, below_active, open_viable, struck_caused, row_records}
use Rattle.model.proofs.Laws.Refusals.{none_holds, answered_number, answered_with, answered_values}
use Rattle.model.proofs.Laws.Change.{column_below, on_range}
use Rattle.model.proofs.Laws.Cancelled.{cancelled_off, cancelled_byte_lem, cancelled_held}
use Rattle.model.proofs.Laws.Masks.{bit_below, bit_past, no_bits}
use Rattle.model.proofs.Laws.Heads.{no_columns_lem, counts_held, no_call_lem, no_calls}
use Rattle.layout.specs.Places.{cause_of, columns_of, killer_of, rows_of, cancelled_byte, cancelled?}
use Rattle.layout.specs.Memory.{State, lent_of}
use Rattle.layout.specs.Sizes.{bad_lent?}
use Rattle.tables.specs.Laws.Facts.{true_false, true_or_false, lt_or_le}
use Rattle.model.specs.Refusals.{first_of, AnsweredBy}
use Rattle.model.specs.Numbers as refused

-- THE FIRST NUMBER that passes a test
pub first_some : (n : ℕ) (f : ℕ → Bool) → T (some? n f) → (first n f < n) × T (f (first n f))
first_some zero f t = absurd t
first_some (suc n) f t = go (some? n f) (λ u. first_some n f u) (f n) refl t
  where
    go : (b : Bool) → (T b → (first n f < n) × T (f (first n f))) → (d : Bool) → f n ≡ d → T (b || d)
        → (cond b (first n f) (cond d n (suc n)) < suc n) × T (f (cond b (first n f) (cond d n (suc n))))
    go true ih d e u = let r = ih tt in let l = r.0 in (omega arith, r.1)
    go false ih true e u = (omega arith, rw e tt)
    go false ih false e u = absurd u

pub first_none : (n : ℕ) (f : ℕ → Bool) → some? n f ≡ false → first n f ≡ n
first_none zero f e = refl
first_none (suc n) f e = let q = or_false (some? n f) (f n) e in rw (q.0, q.1) refl

-- and no lower one does
pub first_lowest : (n : ℕ) (f : ℕ → Bool) (v : ℕ) → v < first n f → f v ≡ false
first_lowest zero f v h = absurd (omega arith)
first_lowest (suc n) f v h = go (true_or_false (some? n f)) (true_or_false (f n)) (λ l. first_lowest n f v l)
  where
    go : (some? n f ≡ true) ⊎ (some? n f ≡ false) → (f n ≡ true) ⊎ (f n ≡ false) → (v < first n f → f v ≡ false) → f v ≡ false
    go (inl e) d ih = ih (subst (λ (b : Bool). v < cond b (first n f) (cond (f n) n (suc n))) e h)
    go (inr e) (inl d) ih = none_passes n f e v (subst (λ (b : Bool). v < cond b n (suc n)) d (subst (λ (b : Bool). v < cond b (first n f) (cond (f n) n (suc n))) e h))
    go (inr e) (inr d) ih =
        ⊎_elim (λ (q : v ≡ n). rw q d) (λ l. none_passes n f e v l)
        (eq-or-lt_of_le (le_of_suc-le-suc (subst (λ (b : Bool). v < cond b n (suc n)) d (subst (λ (b : Bool). v < cond b (first n f) (cond (f n) n (suc n))) e h))))

pub first_found : (n : ℕ) (f : ℕ → Bool) (w : ℕ) → w < n → T (f w) → some? w f ≡ false → first n f ≡ w
first_found zero f w h t e = absurd (omega arith)
first_found (suc n) f w h t e = go (λ l. first_found n f w l t e) (eq-or-lt_of_le (le_of_suc-le-suc h))
  where
    go : (w < n → first n f ≡ w) → (w ≡ n) ⊎ (w < n) → first (suc n) f ≡ w
    go ih (inl q) = rw (← q, e, T→ (f w) t) refl
    go ih (inr l) = rw (T→ (some? n f) (→some n f w l t)) (ih l)

-- WHAT THE RECORDS MEAN: a slot's byte, and a row's
module _ (B : Board) (cause killer : ℕ → ℕ → ℕ) (known : Recorded B cause killer) where
  on_means : (c t : ℕ) → OnBoard B c t → StateMeans B c t (Ok (state_shown (cause c t)))
  on_means c t on = go (known.sound.either c t on)
    where
      go : (cause c t ≡ 255) ⊎ (cause c t < 64) → StateMeans B c t (Ok (state_shown (cause c t)))
      go (inl e) = rw (eq-eqb (cause c t) 255 e) ((open_viable B cause killer known c t).0 (on, e))
      go (inr lt) =
          let why : Caused B cause c t = struck_caused B cause killer known c t (on, lt) in
          rw (ne_eqb (cause c t) 255 (λ e. omega arith), ne_eqb (cause c t) cancelled_byte (λ e. omega arith)) (
            on,
            λ v. omega (arith, ((open_viable B cause killer known c t).1 v).1),
            (why.rule, why.force, why.call),
          )

  state_means : (c t : ℕ) → t < get_or B.counts c 0 → (Cancelled B c → cause c t ≡ cancelled_byte) → StateMeans B c t (Ok (state_shown (cause c t)))
  state_means c t lt byte = go (T? (cancelled_on? B c))
    where
      go : Cancelled B c ⊎ (Cancelled B c → ⊥) → StateMeans B c t (Ok (state_shown (cause c t)))
      go (inl g) = let e = byte g in rw (ne_eqb (cause c t) 255 (λ o. omega arith), eq-eqb (cause c t) cancelled_byte e) g
      go (inr n) = on_means c t (live_on B c t (not_live B c n) lt)

  -- a row without a killer is alive, and the other way round
  killer_none : Shape B → (p : ℕ) (r : Rule) → InForce B p r → (w : ℕ) → w < length r.rows → (killer p w ≡ 255) ↔ Alive B r w
  killer_none shape p r f w lw = go (row_records B cause killer known p r f w lw)
    where
      go : ((killer p w ≡ 255) × Alive B r w) ⊎ (KillerIn B killer (Struck B cause) r p w × Dead B r w) → (killer p w ≡ 255) ↔ Alive B r w
      go (inl a) = (λ e. a.1, λ a'. a.0)
      go (inr d) = (λ e. absurd (omega (arith, column_below B shape p r f (killer p w) d.0.column)), λ a. absurd (d.1 a))

  row_means : Shape B → (p : ℕ) (r : Rule) → InForce B p r → (w : ℕ) → w < length r.rows → RowMeans B r w (Ok (row_shown (killer p w)))
  row_means shape p r f w lw = go (row_records B cause killer known p r f w lw)
    where
      go : ((killer p w ≡ 255) × Alive B r w) ⊎ (KillerIn B killer (Struck B cause) r p w × Dead B r w) → RowMeans B r w (Ok (row_shown (killer p w)))
      go (inl a) = rw (eq-eqb (killer p w) 255 a.0) a.1
      go (inr d) =
          let k = killer p w in
          let column = d.0.column in
          let struck = d.0.member.1 in
          rw (ne_eqb k 255 (λ e. omega (arith, column_below B shape p r f k column))) (
            column,
            λ v. omega (arith, ((open_viable B cause killer known (call_at r k) (slot_at r w k)).1 v).1),
          )

-- WHAT THE HEADS HOLD of a ledger: each of its numbers, whatever the call or the rule's number
module _ (L : Ledger) (shape : LedgerShape L) (s : State) (rep : Represents L s) where
  limits : (p : ℕ) → (length (rule_at L.board p).scope ≤ 4) × (length (rule_at L.board p).rows ≤ 64)
  limits p = go (get_or L.board.rules p none) refl
    where
      go : (o : kept.Option Rule) → get_or L.board.rules p none ≡ o → (length (rule_or o).scope ≤ 4) × (length (rule_or o).rows ≤ 64)
      go none e = (omega arith, omega arith)
      go (some r) e = let g = shape.board.rules p r e in (g.most, g.few)

  -- a number past the last is no rule's
  no_rule : (p : ℕ) → 64 ≤ p → rule_at L.board p ≡ rule_or none
  no_rule p le = ap rule_or (get_or-eq_default L.board.rules none (omega (arith, shape.board.numbers)))

  pub slots_held_lem : (c : ℕ) → slots_held s.value.heads c ≡ get_or L.board.counts c 0
  slots_held_lem = counts_held L.board shape.board s.value.heads rep.stored.headed

  pub columns_held : (p : ℕ) → columns_of s.value.heads.arity p ≡ length (rule_at L.board p).scope
  columns_held p =
      ⊎_elim (λ lt. omega (arith, rep.stored.headed.arity p lt, (limits p).0))
      (λ le.
      omega (
        arith,
        ap (λ (r : Rule). length r.scope) (no_rule p le),
        get_or-eq_default s.value.heads.arity 0 {n = p} (omega (arith, rep.stored.headed.arity_size)),
      ))
      (lt_or_le p 64)

  pub rows_held : (p : ℕ) → rows_of s.value.heads.lengths p ≡ length (rule_at L.board p).rows
  rows_held p =
      ⊎_elim (λ lt. omega (arith, rep.stored.headed.lengths p lt, (limits p).1))
      (λ le.
      omega (
        arith,
        ap (λ (r : Rule). length r.rows) (no_rule p le),
        get_or-eq_default s.value.heads.lengths 0 {n = p} (omega (arith, rep.stored.headed.lengths_size)),
      ))
      (lt_or_le p 64)

  no_slots : (c : ℕ) → eqb (slots_held s.value.heads c) 0 ≡ leb (length L.board.counts) c
  no_slots = no_call_lem L.board shape.board s.value.heads rep.stored.headed

  no_board_lem : no_calls? s.value.heads.counts ≡ no_board? L
  no_board_lem = no_calls L.board shape.board s.value.heads rep.stored.headed

  not_in_force_lem : (p : ℕ) → eqb (columns_of s.value.heads.arity p) 0 ≡ not_in_force? L p
  not_in_force_lem p = ap (λ (n : ℕ). eqb n 0) (columns_held p) ∙ no_columns_lem L.board shape.board p

  -- THE CHECKS ARE THE CONDITIONS
  pub call_checks_lem : (c : ℕ) → call_checks s c ≡ call_conditions L (lent_of s) c
  call_checks_lem c = rw (no_board_lem, no_slots c) refl

  pub slot_checks_lem : (c t : ℕ) → slot_checks s c t ≡ slot_conditions L (lent_of s) c t
  slot_checks_lem c t = rw (no_board_lem, no_slots c, slots_held_lem c) refl

  pub row_checks_lem : (p w : ℕ) → row_checks s p w ≡ row_conditions L (lent_of s) p w
  row_checks_lem p w = rw (no_board_lem, not_in_force_lem p, rows_held p) refl

  -- where the column is refused, 21, the slot is not looked at
  pub support_checks_lem : (p k t : ℕ) → first_of (support_checks s p k t) ≡ first_of (support_conditions L (lent_of s) p k t)
  support_checks_lem p k t =
      rw (no_board_lem, not_in_force_lem p, columns_held p)
      (⊎_elim (λ lt. let in-rule = columns p k lt in rw (rep.stored.headed.scope p k in-rule.0 in-rule.1, slots_held_lem (call_at (rule_at L.board p) k)) refl)
      (λ le. rw (le-leb (length (rule_at L.board p).scope) k le) refl)
      (lt_or_le k (length (rule_at L.board p).scope)))
    where
      columns : (p k : ℕ) → k < length (rule_at L.board p).scope → (p < 64) × (k < 4)
      columns p k lt =
          let few = (limits p).0 in
          (⊎_elim (λ h. h) (λ le. absurd (omega (arith, ap (λ (r : Rule). length r.scope) (no_rule p le)))) (lt_or_le p 64), omega arith)

  -- WHAT THE CONDITIONS THAT DO NOT HOLD GIVE: a call, or a slot of the board; a rule in force with that row, or with that column
  call_there : (c : ℕ) → first_of (call_conditions L (lent_of s) c) ≡ 0 → c < 32
  call_there c e =
      omega (arith, shape.board.calls, leb-false (length L.board.counts) c (none_holds (call_conditions L (lent_of s) c) tt e refused.no_call))

  slot_call : (c t : ℕ) → first_of (slot_conditions L (lent_of s) c t) ≡ 0 → c < length L.board.counts
  slot_call c t e = leb-false (length L.board.counts) c (none_holds (slot_conditions L (lent_of s) c t) tt e refused.no_call)

  slot_there : (c t : ℕ) → first_of (slot_conditions L (lent_of s) c t) ≡ 0 → t < get_or L.board.counts c 0
  slot_there c t e = leb-false (get_or L.board.counts c 0) t (none_holds (slot_conditions L (lent_of s) c t) tt e refused.no_slot)

  in_force_lem : (p : ℕ) → not_in_force? L p ≡ false → InForce L.board p (rule_at L.board p)
  in_force_lem p e = go (get_or L.board.rules p none) e
    where
      go : (o : kept.Option Rule) → is_none o ≡ false → o ≡ some (rule_or o)
      go none e = absurd (true≢false e)
      go (some r) e = refl

  row_there : (p w : ℕ) → first_of (row_conditions L (lent_of s) p w) ≡ 0
      → (p < 64) × InForce L.board p (rule_at L.board p) × (w < length (rule_at L.board p).rows)
  row_there p w e =
      let clear = none_holds (row_conditions L (lent_of s) p w) tt e in (
        omega (arith, ltb-false 63 p (clear refused.bad_number)),
        in_force_lem p (clear refused.not_in_force),
        leb-false (length (rule_at L.board p).rows) w (clear refused.no_row),
      )

  column_there : (p k t : ℕ) → first_of (support_conditions L (lent_of s) p k t) ≡ 0
      → (p < 64) × InForce L.board p (rule_at L.board p) × (k < length (rule_at L.board p).scope)
  column_there p k t e =
      let clear = none_holds (support_conditions L (lent_of s) p k t) tt e in (
        omega (arith, ltb-false 63 p (clear refused.bad_number)),
        in_force_lem p (clear refused.not_in_force),
        leb-false (length (rule_at L.board p).scope) k (clear refused.no_column),
      )

  -- A MASK'S BIT is 1 exactly where the slot is viable
  slots_means : (c : ℕ) → c < 32 → SlotsMeans L.board c (Ok (slots_shown s.slots c))
  slots_means c lc = (
    λ t. ⊎_elim (below t) (past t) (lt_or_le t 32),
    count_same 32 (open? s.slots c) (bit? (mask_of 32 (open? s.slots c))) (λ t lt. sym (bit_below 32 (open? s.slots c) t lt)),
  )
    where
      below : (t : ℕ) → t < 32 → T (bit? (mask_of 32 (open? s.slots c)) t) ↔ Viable L.board c t
      below t lt =
          let e = bit_below 32 (open? s.slots c) t lt in
          let byte = rep.stored.viable c t lc lt in (
            λ h. byte.0 (eqb→eq (cause_of s.slots c t) 255 (subst (λ (b : Bool). T b) e h)),
            λ v. subst (λ (b : Bool). T b) (sym e) (→eqb (cause_of s.slots c t) 255 (byte.1 v)),
          )

      past : (t : ℕ) → 32 ≤ t → T (bit? (mask_of 32 (open? s.slots c)) t) ↔ Viable L.board c t
      past t le = (
        λ h. absurd (subst (λ (b : Bool). T b) (bit_past 32 (open? s.slots c) t le) h),
        λ v. absurd (omega (arith, (on_range L.board shape.board c t (v.self.slots c t v.has)).2)),
      )

  -- the bytes say whether the call of a column is cancelled
  column_cancelled : (p k : ℕ) → p < 64 → k < length (rule_at L.board p).scope → column_cancelled? s p k ≡ cancelled_on? L.board (call_at (rule_at L.board p) k)
  column_cancelled p k lp lk =
      ap (λ (c : ℕ). cancelled? s.slots c) (rep.stored.headed.scope p k lp (omega (arith, (limits p).0)))
      ∙ cancelled_held L.board shape.board rep.stored (call_at (rule_at L.board p) k)

  -- A ROW SUPPORTS a slot in an active column exactly where it is alive and has it there
  supports_means : (p k t w : ℕ) → Active L.board (rule_at L.board p) k → p < 64 → InForce L.board p (rule_at L.board p) → k < length (rule_at L.board p).scope → w < length (rule_at L.board p).rows
      → T (supports? s p k t w) ↔ SupportingRow L.board (rule_at L.board p) k t w
  supports_means p k t w active lp f lk lw =
      let alive = killer_none L.board (cause_of s.slots) (killer_of s.killers) rep.stored.recorded shape.board p (rule_at L.board p) f w lw in
      let most = limits p in
      let byte = rep.stored.row_bytes_lem.bytes p w k lp (omega arith) (omega arith) in
      let living = eqb (killer_of s.killers p w) 255 in
      let there = eqb (get_or s.rows (256 * p + 4 * w + k) 0) t in (
        λ h. let b = and→ living there h in
            record {
              active = active;
              there = lw;
              living = alive.0 (eqb→eq (killer_of s.killers p w) 255 b.0);
              has = sym byte ∙ eqb→eq (get_or s.rows (256 * p + 4 * w + k) 0) t b.1;
            },
        λ h. →and living there (→eqb (killer_of s.killers p w) 255 (alive.1 h.living)) (→eqb (get_or s.rows (256 * p + 4 * w + k) 0) t (byte ∙ h.has)),
      )

  -- THE ROW FOUND IN RULE p, for column k and slot t, is the lowest that supports the slot; where none does, none is found
  module _ (p k t : ℕ) (lp : p < 64) (f : InForce L.board p (rule_at L.board p)) (lk : k < length (rule_at L.board p).scope) where
    abbrev m : ℕ
    m = length (rule_at L.board p).rows

    -- the test says what holds of row v
    supports : (v : ℕ) → SupportingRow L.board (rule_at L.board p) k t v → supports? s p k t v ≡ true
    supports v h = T→ (supports? s p k t v) ((supports_means p k t v h.active lp f lk h.there).1 h)

    -- in an active column
    module _ (active : column_cancelled? s p k ≡ false) where
      no_lower_passes : (v : ℕ) → v < support_row s p k t m → supports? s p k t v ≡ false
      no_lower_passes v l = first_lowest m (supports? s p k t) v (rw active at l)

      is_active : Active L.board (rule_at L.board p) k
      is_active =
          below_active L.board (rule_at L.board p) k lk
          (not_live L.board (call_at (rule_at L.board p) k)
          (λ g. true_false (T→ (cancelled_on? L.board (call_at (rule_at L.board p) k)) g) (sym (column_cancelled p k lp lk) ∙ active)))

      active_means : (some? m (supports? s p k t) ≡ true) ⊎ (some? m (supports? s p k t) ≡ false)
          → SupportMeans L.board (rule_at L.board p) k t (Ok (found_row m (support_row s p k t m)))
      active_means (inl e) =
          let found = first_some m (supports? s p k t) (→T (some? m (supports? s p k t)) e) in
          let w = first m (supports? s p k t) in
          rw (active, lt-ltb w m found.0) (record {
            supporting = (supports_means p k t w is_active lp f lk found.0).0 found.1;
            lowest = λ v l h. absurd (true_false (supports v h) (no_lower_passes v (rw active l)));
          })
      active_means (inr e) =
          rw (active, first_none m (supports? s p k t) e, le-ltb m m (omega arith))
          (λ w h. absurd (true_false (supports w h) (none_passes m (supports? s p k t) e w h.there)))

    support_means : SupportMeans L.board (rule_at L.board p) k t (Ok (found_row m (support_row s p k t m)))
    support_means = go (true_or_false (column_cancelled? s p k))
      where
        go : (column_cancelled? s p k ≡ true) ⊎ (column_cancelled? s p k ≡ false) → SupportMeans L.board (rule_at L.board p) k t (Ok (found_row m (support_row s p k t m)))
        go (inl e) =
            rw (e, le-ltb m m (omega arith))
            (λ w h.
            live_not L.board (call_at (rule_at L.board p) k) (active_live L.board (rule_at L.board p) k h.active)
            (→T (cancelled_on? L.board (call_at (rule_at L.board p) k)) (sym (column_cancelled p k lp lk) ∙ e)))
        go (inr e) = active_means e (true_or_false (some? m (supports? s p k t)))

-- WHAT A BYTE SHOWS has the byte for its value
state_values_lem : (byte : ℕ) → state_values (Ok (state_shown byte)) ≡ byte ∷ []
state_values_lem byte = go (eqb byte 255) (eqb byte cancelled_byte) refl refl
  where
    go : (b d : Bool) → eqb byte 255 ≡ b → eqb byte cancelled_byte ≡ d → state_values (Ok (cond b state.Open (cond d state.Cancelled (state.Struck byte)))) ≡ byte ∷ []
    go true d e q = ap (λ (x : ℕ). x ∷ []) (sym (eqb-true byte 255 e))
    go false true e q = ap (λ (x : ℕ). x ∷ []) (sym (eqb-true byte cancelled_byte q))
    go false false e q = refl

row_values_lem : (byte : ℕ) → row_values (Ok (row_shown byte)) ≡ byte ∷ []
row_values_lem byte = go (eqb byte 255) refl
  where
    go : (b : Bool) → eqb byte 255 ≡ b → row_values (Ok (cond b row.Alive (row.Killed byte))) ≡ byte ∷ []
    go true e = ap (λ (x : ℕ). x ∷ []) (sym (eqb-true byte 255 e))
    go false e = refl

support_values_lem : (m w : ℕ) → support_values (Ok (found_row m w)) ≡ found_value m w ∷ []
support_values_lem m w = go (ltb w m)
  where
    go : (b : Bool) → support_values (Ok (cond b (Some w) None)) ≡ cond b w 255 ∷ []
    go true = refl
    go false = refl

-- THE PROMISES, of each answer that the bytes give
pub slots_promise : (s : State) (c : ℕ) (given : Result OpenSlots Refusal) → AnsweredBy (first_of (call_checks s c)) (slots_shown s.slots c) given → SlotsPromise s c given
slots_promise s c given by =
    record {
      equation = by;
      answered = λ L shape rep. let e = ap first_of (call_checks_lem L shape s rep c) in
          record {
            number = answered_number (first_of (call_checks s c)) (slots_shown s.slots c) given by ∙ e;
            values = answered_values slots_values (λ f. refl) (first_of (call_checks s c)) (slots_shown s.slots c) given by
                ∙ ap (λ (n : ℕ). values_at n (mask_of 32 (open? s.slots c) ∷ count_below 32 (open? s.slots c) ∷ [])) e;
            means = λ z. subst (λ (a : Result OpenSlots Refusal). SlotsMeans L.board c a)
                (sym (answered_with (first_of (call_checks s c)) (slots_shown s.slots c) given by (e ∙ z)))
                (slots_means L shape s rep c (call_there L shape s rep c z));
          };
    }

pub state_promise : (s : State) (c t : ℕ) (given : Result SlotState Refusal) → AnsweredBy (first_of (slot_checks s c t)) (state_shown (cause_of s.slots c t)) given → StatePromise s c t given
state_promise s c t given by =
    record {
      equation = by;
      answered = λ L shape rep. let e = ap first_of (slot_checks_lem L shape s rep c t) in
          record {
            number = answered_number (first_of (slot_checks s c t)) (state_shown (cause_of s.slots c t)) given by ∙ e;
            values = answered_values state_values (λ f. refl) (first_of (slot_checks s c t)) (state_shown (cause_of s.slots c t)) given by
                ∙ ap (values_at (first_of (slot_checks s c t))) (state_values_lem (cause_of s.slots c t))
                ∙ ap (λ (n : ℕ). values_at n (cause_of s.slots c t ∷ [])) e;
            means = λ z. subst (λ (a : Result SlotState Refusal). StateMeans L.board c t a)
                (sym (answered_with (first_of (slot_checks s c t)) (state_shown (cause_of s.slots c t)) given by (e ∙ z)))
                (let lt = slot_there L shape s rep c t z in
                let lc = slot_call L shape s rep c t z in
                let most = (shape.board.counts c lc).1 in
                state_means L.board (cause_of s.slots) (killer_of s.killers) rep.stored.recorded c t lt
                (cancelled_byte_lem L.board shape.board rep.stored c t (omega (arith, shape.board.calls)) (omega arith) lt));
          };
    }

pub row_promise : (s : State) (p w : ℕ) (given : Result RowState Refusal) → AnsweredBy (first_of (row_checks s p w)) (row_shown (killer_of s.killers p w)) given → RowPromise s p w given
row_promise s p w given by =
    record {
      equation = by;
      answered = λ L shape rep. let e = ap first_of (row_checks_lem L shape s rep p w) in
          record {
            number = answered_number (first_of (row_checks s p w)) (row_shown (killer_of s.killers p w)) given by ∙ e;
            values = answered_values row_values (λ f. refl) (first_of (row_checks s p w)) (row_shown (killer_of s.killers p w)) given by
                ∙ ap (values_at (first_of (row_checks s p w))) (row_values_lem (killer_of s.killers p w))
                ∙ ap (λ (n : ℕ). values_at n (killer_of s.killers p w ∷ [])) e;
            means = λ z. let there = row_there L shape s rep p w z in
                subst (λ (a : Result RowState Refusal). RowMeans L.board (rule_at L.board p) w a)
                (sym (answered_with (first_of (row_checks s p w)) (row_shown (killer_of s.killers p w)) given by (e ∙ z)))
                (row_means L.board (cause_of s.slots) (killer_of s.killers) rep.stored.recorded shape.board p (rule_at L.board p) there.1 w there.2);
          };
    }

pub row_bytes_promise : (s : State) (p w : ℕ) → RowBytesPromise s p w (row_bytes_answer s p w)
row_bytes_promise s p w =
    record {
      equation = refl;
      answered = λ L shape rep. let e = ap first_of (row_checks_lem L shape s rep p w) in
          record {
            refused = λ n z. ap (λ (n : ℕ). bytes_by n s.rows p w) (e ∙ z);
            size = λ z. let there = row_there L shape s rep p w z in let most = limits L shape s rep p in let last = there.2 in let size = rep.stored.row_bytes_lem.rows_size in
                ap (λ (n : ℕ). length (bytes_by n s.rows p w)) (e ∙ z)
                ∙ length-take-le 4 (drop (256 * p + 4 * w) s.rows) (omega (arith, there.0, length-drop (256 * p + 4 * w) s.rows));
            means = λ z k lk. let there = row_there L shape s rep p w z in let most = limits L shape s rep p in let last = there.2 in
                ap (λ (n : ℕ). get_or (bytes_by n s.rows p w) k 0) (e ∙ z)
                ∙ get_or-take 4 (drop (256 * p + 4 * w) s.rows) k 0 lk
                ∙ get_or-drop (256 * p + 4 * w) s.rows k 0
                ∙ rep.stored.row_bytes_lem.bytes p w k there.0 (omega arith) lk;
          };
    }

-- the value of an answer says what the answer does
value_means : (B : Board) (r : Rule) (k t : ℕ) (a : Result (Option ℕ) Refusal) → SupportMeans B r k t a → (w : ℕ) × (support_values a ≡ w ∷ []) × SupportValueMeans B r k t w
value_means B r k t (Ok (Some w)) m = (w, refl, inl m)
value_means B r k t (Ok None) m = (255, refl, inr (refl, m))
value_means B r k t (Err e) m = absurd m

pub support_promise : (s : State) (p k t : ℕ) (given : Result (Option ℕ) Refusal) → AnsweredBy (first_of (support_checks s p k t)) (support_shown s p k t) given → SupportPromise s p k t given
support_promise s p k t given by =
    record {
      equation = by;
      answered = λ L shape rep. let e = support_checks_lem L shape s rep p k t in
          record {
            number = answered_number (first_of (support_checks s p k t)) (support_shown s p k t) given by ∙ e;
            values = answered_values support_values (λ f. refl) (first_of (support_checks s p k t)) (support_shown s p k t) given by
                ∙ ap (values_at (first_of (support_checks s p k t))) (support_values_lem held (support_row s p k t held))
                ∙ ap (λ (m : ℕ). values_at (first_of (support_checks s p k t)) (found_value m (support_row s p k t m) ∷ [])) (rows_held L shape s rep p)
                ∙ ap (λ (n : ℕ). values_at n (found_value (length (rule_at L.board p).rows) (support_row s p k t (length (rule_at L.board p).rows)) ∷ [])) e;
            means = λ z. means L shape rep z;
            value_means = λ z. value_means L.board (rule_at L.board p) k t given (means L shape rep z);
          };
    }
  where
    held : ℕ
    held = rows_of s.value.heads.lengths p

    means : (L : Ledger) → LedgerShape L → Represents L s → first_of (support_conditions L (lent_of s) p k t) ≡ 0 → SupportMeans L.board (rule_at L.board p) k t given
    means L shape rep z =
        let there = column_there L shape s rep p k t z in
        subst (λ (a : Result (Option ℕ) Refusal). SupportMeans L.board (rule_at L.board p) k t a)
        (sym (answered_with (first_of (support_checks s p k t)) (support_shown s p k t) given by (support_checks_lem L shape s rep p k t ∙ z)))
        (subst (λ (m : ℕ). SupportMeans L.board (rule_at L.board p) k t (Ok (found_row m (support_row s p k t m)))) (sym (rows_held L shape s rep p))
        (support_means L shape s rep p k t there.0 there.1 there.2))

-- OF A CANCELLED CALL (SCOPE 5.6), on a ledger's memory, each answer that keeps its promise: what it means leaves no other
module _ (L : Ledger) (shape : LedgerShape L) (s : State) (rep : Represents L s) where
  -- the call is on the board, so of it and of its slots nothing is refused
  module _ (c : ℕ) (g : Cancelled L.board c) where
    lent_passes : bad_lent? (lent_of s) ≡ false
    lent_passes = rw (rep.stored.row_bytes_lem.rows_size, rep.stored.killers_size, rep.stored.slots_size) refl

    board_passes : no_board? L ≡ false
    board_passes = ne_eqb (length L.board.counts) 0 (λ e. omega (arith, shape.board.cancelled c g))

    call_passes : leb (length L.board.counts) c ≡ false
    call_passes = lt-leb (length L.board.counts) c (shape.board.cancelled c g)

    -- and none of these is viable
    never_viable : (t : ℕ) → Viable L.board c t → ⊥
    never_viable t v = cancelled_off L.board shape.board rep.stored c t g (v.self.slots c t v.has)

    -- the mask is 0 with 0 ones;
    pub cancelled_mask : (given : Result OpenSlots Refusal) → SlotsPromise s c given → given ≡ Ok (record { mask = 0; count = 0 })
    cancelled_mask given promise = go given ((promise.answered L shape rep).means (rw (lent_passes, board_passes, call_passes) refl))
      where
        go : (a : Result OpenSlots Refusal) → SlotsMeans L.board c a → a ≡ Ok (record { mask = 0; count = 0 })
        go (Ok o) means =
            let clear : (t : ℕ) → T (bit? o.mask t) → ⊥ = λ t h. never_viable t ((means.0 t).0 h) in
            let none_set : o.mask ≡ 0 = no_bits o.mask o.mask (omega arith) clear in
            let none_counted : o.count ≡ 0 = means.1 ∙ count_none 32 (bit? o.mask) (λ t l. not→ (bit? o.mask t) (clear t)) in
            let same : ◌≡◌ {A = OpenSlots} (record { mask = o.mask; count = o.count }) (record { mask = 0; count = 0 }) = cc in
            ap Ok same
        go (Err e) means = absurd means

    -- the state of each of its slots is "cancelled";
    pub cancelled_state : (t : ℕ) → t < get_or L.board.counts c 0 → (given : Result SlotState Refusal) → StatePromise s c t given → given ≡ Ok state.Cancelled
    cancelled_state t lt given promise =
        go given
        ((promise.answered L shape rep).means (rw (lent_passes, board_passes, call_passes, lt-leb (get_or L.board.counts c 0) t lt) refl))
      where
        go : (a : Result SlotState Refusal) → StateMeans L.board c t a → a ≡ Ok state.Cancelled
        go (Ok state.Open) means = absurd (never_viable t means)
        go (Ok (state.Struck n)) means = absurd (cancelled_off L.board shape.board rep.stored c t g means.0)
        go (Ok state.Cancelled) means = refl
        go (Err e) means = absurd means

  -- and in its column the support is "none", once the checks are passed
  pub cancelled_support : (p k t : ℕ) → Cancelled L.board (call_at (rule_at L.board p) k) → (given : Result (Option ℕ) Refusal) → SupportPromise s p k t given
      → first_of (support_conditions L (lent_of s) p k t) ≡ 0 → given ≡ Ok None
  cancelled_support p k t g given promise passed = go given ((promise.answered L shape rep).means passed)
    where
      go : (a : Result (Option ℕ) Refusal) → SupportMeans L.board (rule_at L.board p) k t a → a ≡ Ok None
      go (Ok (Some w)) means =
          absurd
          (live_not L.board (call_at (rule_at L.board p) k)
          (active_live L.board (rule_at L.board p) k means.supporting.active) g)
      go (Ok None) means = refl
      go (Err e) means = absurd means
