-- The walk by masks, row by row, and what it means: a row is killed as its slots' bytes say, and the slots that are not found have no support. Assumes nothing.
use Rattle.std.specs.Prelude.{◌≡◌, refl, List, ◌⊎◌, ℕ, ◌+◌, ◌*◌, ◌≤◌, ◌<◌, length, set}
use Rattle.std.proofs.Common.{sym, ◌∙◌, inl, inr, ⊎_elim, eq-or-lt_of_le, arith, eq-eqb, ne_eqb, get_or-set_same}
use Rattle.std.specs.Int.Bits.{bit_and}
use Rattle.tables.specs.Masks.{Has}
use Rattle.tables.specs.Sweep.{Swept}
use Rattle.layout.specs.Places.{slot_of, killer_of, row_cell}
use Rattle.masks.specs.declared.columns.Columns.{Columns}
use Rattle.masks.specs.Columns.{column_of, InColumn, no_columns, first_columns, PastEmpty, RowMasks}
use Rattle.filter_support.specs.Rows.{HoldsStruck, Killed, Support, Unsupported}
use Rattle.filter_support.specs.Strikes.{NotIn}
use Rattle.filter_support.specs.Walk.{StruckSets, FirstMeeting, killer_now, alive_set, WithRow, MaskKilled, RowWalked, Walked, WalkedColumns}
use Rattle.tables.specs.Laws.Facts.{eq_or_ne, lt_or_le}
use Rattle.tables.specs.Laws.Masks.{power_same, power_has, apart_clear, clear_apart, has_some, has_or_not, not_has, or_left, or_right, or_either}
use Rattle.tables.specs.Laws.Sweep.{one_set, swept_none, swept_more}
use Rattle.masks.specs.Laws.Columns.{none_in, first_same, first_in}

-- THE FIRST MEETING: none before column r, and one there
pub meeting_at : (x y : Columns) {r : ℕ} → r < 4 → (bit_and (column_of x r) (column_of y r) ≡ 0 → ⊥) → ((k : ℕ) → k < r → bit_and (column_of x k) (column_of y k) ≡ 0) → FirstMeeting x y r
meeting_at x y l here before = record { none = λ e. absurd (omega arith); some = λ n. (l, here, before) }

-- and where the sets meet in no column it is 255
pub meeting_none : (x y : Columns) → ((k : ℕ) → k < 4 → bit_and (column_of x k) (column_of y k) ≡ 0) → FirstMeeting x y 255
meeting_none x y none = record { none = λ e. none; some = λ n. absurd (n refl) }

-- A ROW'S KILLER, from the masks of its slots
module _ (rows : List ℕ) (row struck : Columns) (p w : ℕ) (masks : RowMasks rows p w row) where
  -- the row's slot of a column is struck where the two sets meet there
  apart : (k : ℕ) → k < 4 → bit_and (column_of row k) (column_of struck k) ≡ 0 → InColumn struck k (slot_of rows p w k) → ⊥
  apart k l e i = omega (arith, apart_clear (slot_of rows p w k) (column_of struck k) (rw (masks.each k l) at e))

  meets : (k : ℕ) → k < 4 → (bit_and (column_of row k) (column_of struck k) ≡ 0 → ⊥) → InColumn struck k (slot_of rows p w k)
  meets k l n =
      ⊎_elim
      (λ i. i)
      (λ o. absurd (n (rw (masks.each k l) (clear_apart (slot_of rows p w k) (column_of struck k) (not_has _ _ o)))))
      (has_or_not (column_of struck k) (slot_of rows p w k))

  mask_killed : {first : ℕ} (old : ℕ) → FirstMeeting row struck first → MaskKilled rows struck p w old (killer_now old first)
  mask_killed {first} old f =
      ⊎_elim
      (λ (e : old ≡ 255). rw (eq-eqb old 255 e) (record { dead = λ n. absurd (n e); living = λ o. living (eq_or_ne first 255) }))
      (λ (n : old ≡ 255 → ⊥). rw (ne_eqb old 255 n) (record { dead = λ o. refl; living = λ e. absurd (n e) }))
      (eq_or_ne old 255)
    where
      living : (first ≡ 255) ⊎ (first ≡ 255 → ⊥) → ((first ≡ 255) × ((k : ℕ) → k < 4 → InColumn struck k (slot_of rows p w k) → ⊥))
          ⊎ ((first < 4) × InColumn struck first (slot_of rows p w first) × ((k : ℕ) → k < first → InColumn struck k (slot_of rows p w k) → ⊥))
      living (inl e) = inl (e, λ k l. apart k l (f.none e k l))
      living (inr n) = let s = f.some n in let l = s.0 in inr (s.0, meets first s.0 s.1, λ k lk. apart k (omega arith) (s.2 k lk))

  -- what is found with the row's slots: those of a row that lives
  module _ (found x : Columns) (killer : ℕ) (more : WithRow found row killer x) where
    found_joins : killer ≡ 255 → (k : ℕ) → k < 4 → InColumn x k (slot_of rows p w k)
    found_joins e k l = rw (more.each k l, eq-eqb killer 255 e, masks.each k l) (or_right (column_of found k) _ _ (power_same (slot_of rows p w k)))

    found_stays : (k s : ℕ) → k < 4 → InColumn found k s → InColumn x k s
    found_stays k s l i = rw (more.each k l) (or_left _ _ s i)

    added : (k s : ℕ) → k < 4 → Has (alive_set killer (column_of row k)) s → (killer ≡ 255) × (slot_of rows p w k ≡ s)
    added k s l h =
        ⊎_elim
        (λ (e : killer ≡ 255). (e, sym (power_has _ s (rw (eq-eqb killer 255 e, masks.each k l) at h))))
        (λ (n : killer ≡ 255 → ⊥). absurd (has_some _ s (rw (ne_eqb killer 255 n) at h) refl))
        (eq_or_ne killer 255)

    found_only : (k s : ℕ) → k < 4 → InColumn x k s → InColumn found k s ⊎ ((killer ≡ 255) × (slot_of rows p w k ≡ s))
    found_only k s l i = ⊎_elim (λ o. inl o) (λ h. inr (added k s l h)) (or_either _ _ s (rw (more.each k l) at i))

-- ONE ROW of the walk
pub row_walked : (rows : List ℕ) (row struck found x : Columns) (p w : ℕ) {first now : ℕ} (killers : List ℕ) → RowMasks rows p w row → FirstMeeting row struck first
    → now ≡ killer_now (killer_of killers p w) first → WithRow found row now x → 64 * p + w < length killers
    → RowWalked rows struck p w killers (set killers (64 * p + w) now) found x
row_walked rows row struck found x p w {first} {now} killers masks meeting e more l =
    let is : killer_of (set killers (64 * p + w) now) p w ≡ now = get_or-set_same killers (64 * p + w) now 0 l in
    record {
      kill = one_set 0 _ (64 * p) w killers now l (rw e (mask_killed rows row struck p w masks (killer_of killers p w) meeting));
      joins = λ k lk h. found_joins rows row struck p w masks found x now more (sym is ∙ h) k lk;
      stays = found_stays rows row struck p w masks found x now more;
      only = λ k s lk i. ⊎_elim (λ o. inl o) (λ t. inr (is ∙ t.0, t.1)) (found_only rows row struck p w masks found x now more k s lk i);
    }

-- THE WALK, row by row
module _ (rows : List ℕ) (struck : Columns) (p : ℕ) where
  pub walked_none : (killers : List ℕ) → Walked rows struck p 0 killers killers no_columns
  walked_none killers =
      record {
        kills = swept_none 0 _ _ killers;
        has = λ k s l x. let z = x.inside in absurd (omega arith);
        only = λ k s l i. absurd (none_in k s l i);
      }

  pub walked_more : {w : ℕ} {killers mid killed : List ℕ} {x y : Columns} → Walked rows struck p w killers mid x → RowWalked rows struck p w mid killed x y
      → Walked rows struck p (w + 1) killers killed y
  walked_more {w} {killers} {mid} {killed} {x} {y} a b =
      record { kills = swept_more 0 _ _ w _ _ _ a.kills b.kill; has = has; only = only }
    where
      -- the rows before are as they were
      same : (v : ℕ) → v < w → killer_of killed p v ≡ killer_of mid p v
      same v l = b.kill.other (64 * p + v) (λ e. omega arith)

      has : (k s : ℕ) → k < 4 → Support rows killed p (w + 1) k s → InColumn y k s
      has k s l z =
          let inside = z.inside in
          let le : z.row ≤ w = omega arith in
          ⊎_elim
          (λ (e : z.row ≡ w). rw (← z.holds, e) (b.joins k l (rw e at z.lives)))
          (λ (lt : z.row < w).
          b.stays k s l (a.has k s l (record { row = z.row; inside = lt; lives = sym (same z.row lt) ∙ z.lives; holds = z.holds })))
          (eq-or-lt_of_le le)

      only : (k s : ℕ) → k < 4 → InColumn y k s → Support rows killed p (w + 1) k s
      only k s l i =
          ⊎_elim
          (λ o.
          let z = a.only k s l o in
          let inside = z.inside in
          record { row = z.row; inside = omega arith; lives = same z.row z.inside ∙ z.lives; holds = z.holds })
          (λ t. record { row = w; inside = omega arith; lives = t.0; holds = t.1 })
          (b.only k s l i)

  -- after the last round, where the loop's test says that w is m
  pub walked_at : {w m : ℕ} {killers killed : List ℕ} {x : Columns} → Walked rows struck p w killers killed x → w ≤ m → m ≤ w → Walked rows struck p m killers killed x
  walked_at {w} {m} a l g = let e : m ≡ w = omega arith in rw e a

-- WHAT THE MASKS MEAN: a row is killed as its slots' bytes say
module _ (rows slots scope : List ℕ) (p n : ℕ) (few : n ≤ 4) (struck : Columns) (known : StruckSets slots scope p n struck) where
  in_struck : (w k : ℕ) → k < n → InColumn struck k (slot_of rows p w k) → HoldsStruck rows slots scope p w k
  unfolding row_cell
  in_struck w k l i = (((known.each k (omega arith)).here l).only (slot_of rows p w k) i).1

  struck_in_lem : (w k : ℕ) → k < n → HoldsStruck rows slots scope p w k → InColumn struck k (slot_of rows p w k)
  unfolding row_cell
  struck_in_lem w k l h = ((known.each k (omega arith)).here l).has (slot_of rows p w k) (omega arith) h

  -- a column past the rule's holds nothing struck
  in_column : (w k : ℕ) → k < 4 → InColumn struck k (slot_of rows p w k) → k < n
  in_column w k l i =
      ⊎_elim
      (λ (h : k < n). h)
      (λ (h : n ≤ k). absurd (has_some _ (slot_of rows p w k) i ((known.each k l).past h)))
      (lt_or_le k n)

  killed_by : (w old new : ℕ) → MaskKilled rows struck p w old new → Killed rows slots scope p n w old new
  killed_by w old new x =
      record {
        dead = x.dead;
        living = λ o.
            ⊎_elim
            (λ y. inl (y.0, λ k l h. y.1 k (omega arith) (struck_in_lem w k l h)))
            (λ y.
            let l = in_column w new y.0 y.1 in
            inr (l, record { le = omega arith; before = λ k lk h. y.2 k lk (struck_in_lem w k (omega arith) h); here = λ z. in_struck w new l y.1 }))
            (x.living o);
      }

  pub walk_kills : {m : ℕ} {killers killed : List ℕ} → Swept 0 (MaskKilled rows struck p) (64 * p) m killers killed → Swept 0 (Killed rows slots scope p n) (64 * p) m killers killed
  walk_kills s = record { len = s.len; inside = λ w l. killed_by w _ _ (s.inside w l); below = s.below; above = s.above }

-- A RULE OF FEWER COLUMNS: what is found in the others is thrown away
module _ {rows : List ℕ} {struck : Columns} {p h : ℕ} {killers killed : List ℕ} {x : Columns} where
  pub walked_first : (m : ℕ) → 1 < m → (n : ℕ) → n ≤ m → n ≤ 4 → Walked rows struck p h killers killed x → WalkedColumns rows struck p n h killers killed (first_columns m x)
  walked_first m two n few four v =
      record {
        kills = v.kills;
        has = λ k s lk i. rw (first_in m two x k (omega arith) (omega arith)) (v.has k s (omega arith) i);
        only = λ k s lk i. v.only k s (omega arith) (rw (first_in m two x k (omega arith) (omega arith)) at i);
      }

  -- of two columns at most, of three at most, and of any number
  pub walked_two : (n : ℕ) → n < 3 → Walked rows struck p h killers killed x → WalkedColumns rows struck p n h killers killed (first_columns 2 x)
  walked_two n l = walked_first 2 (omega arith) n (omega arith) (omega arith)

  pub walked_three : (n : ℕ) → n < 4 → Walked rows struck p h killers killed x → WalkedColumns rows struck p n h killers killed (first_columns 3 x)
  walked_three n l = walked_first 3 (omega arith) n (omega arith) (omega arith)

  pub walked_four : (n : ℕ) → n ≤ 4 → Walked rows struck p h killers killed x → WalkedColumns rows struck p n h killers killed x
  walked_four n l = walked_first 4 (omega arith) n l l

  -- where the columns past n are empty, a walk by the first m sets is one by all
  pub walked_past : (m : ℕ) → 1 < m → (n : ℕ) → n ≤ m → PastEmpty n struck → Walked rows (first_columns m struck) p h killers killed x → Walked rows struck p h killers killed x
  walked_past m two n few past w = rw (first_same m two struck n few past) at w

-- A SLOT THAT IS NOT FOUND has no support
module _ {rows : List ℕ} {struck : Columns} {p m : ℕ} {killers killed : List ℕ} {x : Columns} {n : ℕ} (v : WalkedColumns rows struck p n m killers killed x) where
  pub unsupported : (k s : ℕ) → k < n → NotIn x k s → Unsupported rows killed p m k s
  unsupported k s l z h = omega (arith, v.has k s l h)

  pub not_found : (k s : ℕ) → k < n → Unsupported rows killed p m k s → NotIn x k s
  not_found k s l absent = not_has (column_of x k) s (λ i. absent (v.only k s l i))
