-- The walk over a rule's rows by masks: a row's killer, and what is found with its slots, row by row; then which of these slots are new. Assumes nothing.
use Rattle.std.specs.Prelude.{◌≡◌, refl, List, ◌⊎◌, Bool, true, false, cond, ℕ, zero, suc, ◌+◌, ◌^◌, ◌≤◌, ◌<◌, eqb, length, get_or}
use Rattle.std.proofs.Common.{sym, ◌∙◌, inl, inr, ⊎_elim, eq-or-lt_of_le, arith, eq-eqb, ne_eqb, eqb-true}
use Rattle.std.specs.Int.Bits.{bit_and, bit_or, or_zero_r, or_add_and}
use Rattle.std.proofs.lemmas.Nat.{and_le_l, and_le_r}
use Rattle.tables.specs.Assign.{Any, Below}
use Rattle.tables.specs.Masks.{IsMask, all_flags}
use Rattle.tables.specs.Laws.Assign.{assign_stays}
use Rattle.tables.specs.Laws.Facts.{eq_or_ne, lt_or_le}
use Rattle.tables.specs.Laws.Flags.{all_set, all_has}
use Rattle.tables.specs.Laws.Masks.{
  apart_clear,
  clear_apart,
  power_same,
  power_has,
  has_some,
  has_below,
  has_or_not,
  not_has,
  or_left,
  or_right,
  or_either,
  and_has,
  and_both,
}
use Rattle.masks.specs.declared.columns.Columns.{Columns}
use Rattle.masks.specs.Columns.{column_of, InColumn, no_columns, first_columns, PastEmpty, RowMasks, ColumnSets}
use Rattle.masks.specs.Slots.{SetDifference}
use Rattle.masks.specs.Laws.Columns.{four, none_in, first_in}
use Rattle.filter_propagate.specs.Rules.{RuleBytes}
use Rattle.filter_propagate.specs.Queue.{IsFlagged}
use Rattle.layout.specs.Places.{columns_of, rows_of, call_of, slot_of, killer_of, cause_of, row_cell, slot_place}
use Rattle.filter_relax.specs.Reach.{Reach, seed, joins}
use Rattle.filter_relax.specs.Touched.{HeldAt, RuleJustifies, KillerVisited}
use Rattle.filter_relax.specs.Spread.{ColumnMask, Adds}
use Rattle.filter_relax.specs.Scan.{KillerBits, WithHit, KillerMet, RowScanned, HitRow, Scanned, ScannedColumns, ColumnWanted, ColumnsWanted, Empty, Common, NewSlots, Scans}
use Rattle.filter_relax.proofs.Laws.Spread.{not_visited, adds_spread, spread_none}

-- THE KILLER'S BIT: of the four columns only that of the killer counts
abbrev bits_of : Columns → Columns → ℕ → ℕ
bits_of row sets killer =
    bit_or
    (bit_or
    (bit_or (cond (eqb killer 0) (bit_and row.c0 sets.c0) 0) (cond (eqb killer 1) (bit_and row.c1 sets.c1) 0))
    (cond (eqb killer 2) (bit_and row.c2 sets.c2) 0))
    (cond (eqb killer 3) (bit_and row.c3 sets.c3) 0)

bits_here : (row sets : Columns) (killer : ℕ) → killer < 4 → bits_of row sets killer ≡ bit_and (column_of row killer) (column_of sets killer)
bits_here row sets zero l = simp or_zero_r
bits_here row sets (suc zero) l = simp or_zero_r
bits_here row sets (suc (suc zero)) l = simp or_zero_r
bits_here row sets (suc (suc (suc zero))) l = refl
bits_here row sets (suc (suc (suc (suc k)))) l = absurd (omega arith)

bits_past : (row sets : Columns) (killer : ℕ) → 4 ≤ killer → bits_of row sets killer ≡ 0
bits_past row sets killer l =
    let a = ne_eqb killer 0 (λ e. omega arith) in
    let b = ne_eqb killer 1 (λ e. omega arith) in
    let c = ne_eqb killer 2 (λ e. omega arith) in
    let d = ne_eqb killer 3 (λ e. omega arith) in
    rw (a, b, c, d) refl

pub killer_bits : (row sets : Columns) (killer : ℕ) {a b c d : ℕ} → a ≡ cond (eqb killer 0) (bit_and row.c0 sets.c0) 0 → b ≡ cond (eqb killer 1) (bit_and row.c1 sets.c1) 0
    → c ≡ cond (eqb killer 2) (bit_and row.c2 sets.c2) 0 → d ≡ cond (eqb killer 3) (bit_and row.c3 sets.c3) 0
    → KillerBits row sets killer (bit_or (bit_or (bit_or a b) c) d)
killer_bits row sets killer ea eb ec ed =
    rw (ea, eb, ec, ed)
    (record {
      met = λ n. ⊎_elim (λ l. (l, λ e. n (bits_here row sets killer l ∙ e))) (λ ge. absurd (n (bits_past row sets killer ge))) (lt_or_le killer 4);
      apart = λ e l. sym (bits_here row sets killer l) ∙ e;
    })

-- A ROW'S KILLER BIT SAYS whether its killer's slot is in the sets
module _ {rows : List ℕ} {row : Columns} (sets : Columns) {q w : ℕ} (masks : RowMasks rows q w row) where
  apart_in : (k : ℕ) → k < 4 → bit_and (column_of row k) (column_of sets k) ≡ 0 → InColumn sets k (slot_of rows q w k) → ⊥
  apart_in k l e i = omega (arith, apart_clear (slot_of rows q w k) (column_of sets k) (rw (masks.each k l) at e))

  met_in : (k : ℕ) → k < 4 → (bit_and (column_of row k) (column_of sets k) ≡ 0 → ⊥) → InColumn sets k (slot_of rows q w k)
  met_in k l n =
      ⊎_elim
      (λ i. i)
      (λ (o : InColumn sets k (slot_of rows q w k) → ⊥).
      absurd (n (rw (masks.each k l) (clear_apart (slot_of rows q w k) (column_of sets k) (not_has (column_of sets k) (slot_of rows q w k) o)))))
      (has_or_not (column_of sets k) (slot_of rows q w k))

  module _ {killer r : ℕ} (bits : KillerBits row sets killer r) where
    pub killer_met : (r ≡ 0 → ⊥) → KillerMet rows sets q w killer
    killer_met n = let x = bits.met n in record { column = x.0; slot = met_in killer x.0 x.1 }

    pub killer_apart : r ≡ 0 → KillerMet rows sets q w killer → ⊥
    killer_apart e x = apart_in killer x.column (bits.apart e x.column) x.slot

-- A KILLER IS MET where its slot is visited, if the sets are those of the visited slots
module _ (visited rows : List ℕ) {scope : List ℕ} {q n : ℕ} {sets : Columns} (known : ColumnSets visited scope q n sets) (w x : ℕ) where
  pub met_visited : KillerMet rows sets q w x → KillerVisited rows scope (all_flags 32 visited) q n w x
  unfolding row_cell
  met_visited k =
      let s = slot_of rows q w x in
      let column = known.each x k.column in
      ⊎_elim
      (λ l. record { column = l; slot = all_set 32 visited (call_of scope q x) s (omega arith) (rw (column.here l) at k.slot) })
      (λ past. absurd (has_some (column_of sets x) s k.slot (column.past past)))
      (lt_or_le x n)

  pub visited_met : n ≤ 4 → KillerVisited rows scope (all_flags 32 visited) q n w x → KillerMet rows sets q w x
  unfolding row_cell
  visited_met few k =
      let l = k.column in
      let lx : x < 4 = omega arith in
      record { column = lx; slot = rw ((known.each x lx).here l) (all_has 32 visited (call_of scope q x) (slot_of rows q w x) (omega arith) k.slot) }

-- ONE ROW: its slots join what is found where its killer's slot is in the sets
pub row_scanned : {rows : List ℕ} (killers : List ℕ) {row sets found x : Columns} {q w hit : ℕ} → RowMasks rows q w row → KillerBits row sets (killer_of killers q w) hit
    → WithHit found row hit x → RowScanned rows killers sets q w found x
row_scanned {rows} killers {row} {sets} {found} {x} {q} {w} {hit} masks bits more = record { joins = joins; stays = stays; only = only }
  where
    Met : Type 0
    Met = KillerMet rows sets q w (killer_of killers q w)

    added : (hit ≡ 0 → ⊥) → (k : ℕ) → k < 4 → column_of x k ≡ bit_or (column_of found k) (2 ^ slot_of rows q w k)
    added n k l = more.each k l ∙ rw (ne_eqb hit 0 n, masks.each k l) refl

    kept : hit ≡ 0 → (k : ℕ) → k < 4 → column_of x k ≡ bit_or (column_of found k) 0
    kept e k l = more.each k l ∙ rw (eq-eqb hit 0 e) refl

    joins : (k : ℕ) → k < 4 → Met → InColumn x k (slot_of rows q w k)
    joins k l m =
        rw (added (λ e. killer_apart sets masks bits e m) k l)
        (or_right (column_of found k) (2 ^ slot_of rows q w k) (slot_of rows q w k) (power_same (slot_of rows q w k)))

    stays : (k s : ℕ) → k < 4 → InColumn found k s → InColumn x k s
    stays k s l i = rw (more.each k l) (or_left (column_of found k) (cond (eqb hit 0) 0 (column_of row k)) s i)

    only : (k s : ℕ) → k < 4 → InColumn x k s → InColumn found k s ⊎ (Met × (slot_of rows q w k ≡ s))
    only k s l i =
        ⊎_elim
        (λ (e : hit ≡ 0). let o : InColumn found k s = simp (kept e k l, or_zero_r) at i in inl o)
        (λ n.
        ⊎_elim
        (λ o. inl o)
        (λ o. inr (killer_met sets masks bits n, sym (power_has (slot_of rows q w k) s o)))
        (or_either (column_of found k) (2 ^ slot_of rows q w k) s (rw (added n k l) at i)))
        (eq_or_ne hit 0)

-- THE WALK, row by row
module _ (rows killers : List ℕ) (sets : Columns) (q : ℕ) where
  pub scanned_none : Scanned rows killers sets q 0 no_columns
  scanned_none = record { has = λ k s l h. let z = h.inside in absurd (omega arith); only = λ k s l i. absurd (none_in k s l i) }

  pub scanned_more : {w : ℕ} {x y : Columns} → Scanned rows killers sets q w x → RowScanned rows killers sets q w x y → Scanned rows killers sets q (w + 1) y
  scanned_more {w} {x} {y} a b = record { has = has; only = only }
    where
      has : (k s : ℕ) → k < 4 → HitRow rows killers sets q (w + 1) k s → InColumn y k s
      has k s l h =
          let inside = h.inside in
          let le : h.row ≤ w = omega arith in
          ⊎_elim
          (λ (e : h.row ≡ w). rw (← h.holds, e) (b.joins k l (rw e at h.hit)))
          (λ (lt : h.row < w). b.stays k s l (a.has k s l (record { row = h.row; inside = lt; hit = h.hit; holds = h.holds })))
          (eq-or-lt_of_le le)

      only : (k s : ℕ) → k < 4 → InColumn y k s → HitRow rows killers sets q (w + 1) k s
      only k s l i =
          ⊎_elim
          (λ o.
          let h = a.only k s l o in
          let inside = h.inside in
          record { row = h.row; inside = omega arith; hit = h.hit; holds = h.holds })
          (λ t. record { row = w; inside = omega arith; hit = t.0; holds = t.1 })
          (b.only k s l i)

  -- after the last round, where the loop's test says that w is m
  pub scanned_at : {w m : ℕ} {x : Columns} → Scanned rows killers sets q w x → w ≤ m → m ≤ w → Scanned rows killers sets q m x
  scanned_at {w} {m} a l g = let e : m ≡ w = omega arith in rw e a

-- A RULE OF FEWER COLUMNS: what is found in the others is thrown away
module _ {rows killers : List ℕ} {sets : Columns} {q m : ℕ} {x : Columns} where
  pub scanned_first : (w : ℕ) → 1 < w → w ≤ 4 → (n : ℕ) → n ≤ w → Scanned rows killers sets q m x → ScannedColumns rows killers sets q n m (first_columns w x)
  scanned_first w two few n l v =
      record {
        has = λ k s lk h. rw (first_in w two x k (omega arith) (omega arith)) (v.has k s (omega arith) h);
        only = λ k s lk i. v.only k s (omega arith) (rw (first_in w two x k (omega arith) (omega arith)) at i);
      }

  -- of two columns at most, of three at most, and of any number
  pub scanned_two : (n : ℕ) → n < 3 → Scanned rows killers sets q m x → ScannedColumns rows killers sets q n m (first_columns 2 x)
  scanned_two n l = scanned_first 2 (omega arith) (omega arith) n (omega arith)

  pub scanned_three : (n : ℕ) → n < 4 → Scanned rows killers sets q m x → ScannedColumns rows killers sets q n m (first_columns 3 x)
  scanned_three n l = scanned_first 3 (omega arith) (omega arith) n (omega arith)

  pub scanned_four : (n : ℕ) → n ≤ 4 → Scanned rows killers sets q m x → ScannedColumns rows killers sets q n m x
  scanned_four n l v = record { has = λ k s lk. v.has k s (omega arith); only = λ k s lk. v.only k s (omega arith) }

-- WHAT IS WANTED of a column: the slots with the cause q that are not visited
pub column_wanted : (slots scope visited : List ℕ) (q n k : ℕ) {mask r : ℕ} → k < n → r < 2 ^ 32 → IsMask (λ s. cause_of slots (call_of scope q k) s ≡ q) 32 mask
    → SetDifference mask (get_or visited (call_of scope q k) 0) r → ColumnWanted slots scope visited q n k r
column_wanted slots scope visited q n k {mask} {r} l small x d =
    record {
      here = λ lt.
          record {
            has = λ s ls p. d.has s ls (x.has s ls p.0) p.1;
            only = λ s h.
                let ls = has_below 32 r s small h in
                let b = d.only s ls h in
                (ls, ((x.only s b.0).1, b.1));
          };
      past = λ ge. absurd (omega arith);
    }

-- nothing is wanted past the columns
pub wanted_past : {slots scope visited : List ℕ} {q n : ℕ} {x : Columns} → ColumnsWanted slots scope visited q n x → PastEmpty n x
wanted_past want k le lt = (want.each k lt).past le

-- where the OR of the four sets is 0 each of them is
or_zero : (a b : ℕ) → bit_or a b ≡ 0 → (a ≡ 0) × (b ≡ 0)
or_zero a b e = (omega (arith, or_add_and a b, and_le_l a b, and_le_r a b), omega (arith, or_add_and a b, and_le_l a b, and_le_r a b))

pub columns_empty : (x : Columns) → Empty x (eqb (bit_or (bit_or (bit_or x.c0 x.c1) x.c2) x.c3) 0)
columns_empty x =
    record {
      none = λ e.
          let z = or_zero (bit_or (bit_or x.c0 x.c1) x.c2) x.c3 (eqb-true (bit_or (bit_or (bit_or x.c0 x.c1) x.c2) x.c3) 0 e) in
          let y = or_zero (bit_or x.c0 x.c1) x.c2 z.0 in
          let w = or_zero x.c0 x.c1 y.0 in
          four (λ k. column_of x k ≡ 0) w.0 w.1 y.1 z.1;
    }

-- WHAT IS NEW: what is wanted and found
pub found_wanted : {rows killers scope visited : List ℕ} {sets wanted found x : Columns} {q n m : ℕ} → n ≤ 4 → PastEmpty n wanted → ColumnSets visited scope q n sets
    → ScannedColumns rows killers sets q n m found → Common found wanted x → NewSlots rows killers scope visited wanted q n m x
found_wanted {sets = sets} {wanted} {found} {x} {q} {n} {m} few past known scanned both =
    record {
      sets = sets;
      known = known;
      has = λ k s l i h. rw (both.each k (omega arith)) (and_has (column_of found k) (column_of wanted k) s (scanned.has k s l h) i);
      only = λ k s l i.
          let b = and_both (column_of found k) (column_of wanted k) s (rw (both.each k l) at i) in
          ⊎_elim (λ lt. (lt, b.1, scanned.only k s lt b.0)) (λ ge. absurd (has_some (column_of wanted k) s b.1 (past k ge l))) (lt_or_le k n);
    }

-- A RULE IS SCANNED, of n columns
module _ (R : RuleBytes) (killers slots visited : List ℕ) (q n : ℕ) (few : n ≡ columns_of R.arity q) (size : length visited ≡ 32)
    (wanted : Columns) (want : ColumnsWanted slots R.scope visited q n wanted) where
  abbrev old : List Bool
  old = all_flags 32 visited

  -- a slot of a row with the rule as its cause is visited, or wanted
  visited_or_wanted : (w k j : ℕ) → k < n → HeldAt R.rows slots R.scope q w k j → IsFlagged old j ⊎ InColumn wanted k (slot_of R.rows q w k)
  unfolding row_cell
  visited_or_wanted w k j l h =
      let c = call_of R.scope q k in
      let s = slot_of R.rows q w k in
      let e : j ≡ slot_place c s = h.is in
      ⊎_elim
      (λ o. inl (rw e (all_set 32 visited c s (omega arith) o)))
      (λ n. inr (((want.each k (omega arith)).here l).has s (omega arith) (rw e at h.cause, n)))
      (has_or_not (get_or visited c 0) s)

  -- where nothing is wanted nothing is new
  pub scans_quiet : ((k : ℕ) → k < 4 → column_of wanted k ≡ 0) → Scans (RuleJustifies R killers slots q) old old 0
  scans_quiet none =
      record {
        spread = spread_none old;
        full = λ i j p o.
            let h = p.by.held in
            let l = h.1 in
            ⊎_elim
            (λ v. v)
            (λ w. absurd (has_some (column_of wanted h.0) (slot_of R.rows q p.row h.0) w (none h.0 (omega arith))))
            (visited_or_wanted p.row h.0 j (omega arith) h.2);
        from = λ j o. seed o;
      }

  -- else the new slots are those that a row justifies by a visited one
  module _ {m : ℕ} (rows-count : m ≡ rows_of R.lengths q) {new : Columns} {after : List ℕ} {calls : ℕ} (fresh : NewSlots R.rows killers R.scope visited wanted q n m new)
      (a : Adds (Below (ColumnMask R.scope q new) 4) visited after 0 calls) where
    -- they were not visited
    was_not : (j : ℕ) → Below (ColumnMask R.scope q new) 4 j → get_or old j false ≡ false
    was_not j x =
        let y = x.2 in
        let f = fresh.only x.0 y.0 x.1 y.3 in
        let w = ((want.each x.0 x.1).here f.0).only y.0 f.1 in
        rw y.2 (not_visited visited size (call_of R.scope q x.0) y.0 (omega arith) y.1 w.1.1)

    full : (i j : ℕ) → RuleJustifies R killers slots q i j → IsFlagged old i → IsFlagged (all_flags 32 after) j
    unfolding row_cell
    full i j p o =
        let h = p.by.held in
        let lk = h.1 in
        let l = p.inside in
        let column = p.by.column in
        let s = slot_of R.rows q p.row h.0 in
        ⊎_elim
        (λ v. assign_stays false true Any _ _ _ j a.visited v)
        (λ w.
        let hit : HitRow R.rows killers fresh.sets q m h.0 s = record { row = p.row; inside = omega arith; hit = visited_met visited R.rows fresh.known p.row _ (omega arith) (record { column = omega arith; slot = rw p.by.killer at o }); holds = refl } in
        a.visited.written j (h.0, omega arith, (s, omega arith, h.2.is, fresh.has h.0 s (omega arith) w hit)) tt)
        (visited_or_wanted p.row h.0 j (omega arith) h.2)

    reached : (j : ℕ) → Below (ColumnMask R.scope q new) 4 j → Reach (RuleJustifies R killers slots q) (IsFlagged old) j
    unfolding row_cell
    reached j x =
        let y = x.2 in
        let f = fresh.only x.0 y.0 x.1 y.3 in
        let w = ((want.each x.0 x.1).here f.0).only y.0 f.1 in
        let hit = f.2 in
        let v = met_visited visited R.rows fresh.known hit.row _ hit.hit in
        let lk = f.0 in
        let lr = hit.inside in
        let lc = v.column in
        let is : j ≡ row_cell R.rows R.scope q hit.row x.0 = rw hit.holds y.2 in
        joins (seed v.slot)
        (record {
          row = hit.row;
          inside = omega arith;
          by = record { held = (x.0, omega arith, record { is = is; cause = rw y.2 w.1.0 }); column = omega arith; killer = refl };
        })

    pub scans_new : Scans (RuleJustifies R killers slots q) old (all_flags 32 after) calls
    scans_new =
        record {
          spread = adds_spread size was_not a;
          full = full;
          from = λ j o. ⊎_elim (λ e. seed (sym e ∙ o)) (λ t. reached j t.2) (a.visited.each j);
        }
