-- Striking, slot by slot and column by column, and on which calls. Assumes nothing.
use Rattle.std.specs.Prelude.{◌≡◌, refl, List, ◌⊎◌, true, false, ℕ, ◌+◌, ◌*◌, ◌-◌, ◌%◌, ◌^◌, ◌≤◌, ◌<◌, length, get_or, set}
use Rattle.std.proofs.Common.{sym, ap, ◌∙◌, inl, inr, ⊎_elim, arith, eq-eqb, ne_eqb, eqb-true, lt-ltb, le-ltb, ltb-true}
use Rattle.std.specs.Int.Bits.{bit_and, bit_or}
use Rattle.std.specs.Int.Count.{count_trailing_zeros}
use Rattle.tables.specs.Assign.{Below}
use Rattle.tables.specs.Count.{bit}
use Rattle.tables.specs.Lost.{OnlyLost}
use Rattle.tables.specs.Masks.{Has, IsMask}
use Rattle.layout.specs.Places.{call_of, slot_place, cause_of}
use Rattle.tables.specs.Laws.Count.{count_le, count_set}
use Rattle.tables.specs.Laws.Assign.{assign_none, assign_more, assign_same, assign_at, assign_set, assign_keep}
use Rattle.tables.specs.Laws.Left.{Left, Removed, Of, left_all, left_lowest, left_more, taken_lowest, assign_lowest, assign_taken}
use Rattle.tables.specs.Laws.Lost.{only_some, only_same}
use Rattle.tables.specs.Laws.Facts.{eq_or_ne}
use Rattle.tables.specs.Laws.Masks.{power_same, power_has, shl_one, has_some, has_below, or_left, or_right, or_either}
use Rattle.filter_support.specs.Strikes.{is_open, is_struck, OpenByte, SlotsStruck, CallWith, ColumnWith, AllOpen, StruckOn, WithCall, ColumnsStruck}

pub open_not_struck : (x : ℕ) → is_open x ≡ true → is_struck x ≡ false
open_not_struck x e = let z = eqb-true x 255 e in le-ltb x 64 (omega arith)

-- no open slot of Q
pub strikes_keep : (Q : ℕ → Type 0) (p : ℕ) (l : List ℕ) → ((j : ℕ) → Q j → get_or l j 0 ≡ 255 → ⊥) → SlotsStruck Q p 0 l l
strikes_keep Q p l h = record { assigned = assign_keep 0 p OpenByte Q l (λ j q o. absurd (h j q o)); drop = omega arith }

-- one open slot, the only one of Q
pub strikes_set : (Q : ℕ → Type 0) (p i : ℕ) (l : List ℕ) → p < 64 → i < length l → get_or l i 0 ≡ 255 → Q i → ((j : ℕ) → Q j → j ≡ i) → SlotsStruck Q p 1 l (set l i p)
strikes_set Q p i l lp li o q only =
    let was : bit (is_open (get_or l i 0)) ≡ 1 = ap bit (eq-eqb (get_or l i 0) 255 o) in
    let is : bit (is_open p) ≡ 0 = ap bit (ne_eqb p 255 (λ e. omega arith)) in
    record { assigned = assign_set 0 p OpenByte Q i l li o q only; drop = omega (arith, count_set is_open 0 p l i li) }

module _ (Q : ℕ → ℕ → Type 0) (p : ℕ) where
  pub strikes_none : (l : List ℕ) → SlotsStruck (Below Q 0) p 0 l l
  strikes_none l = record { assigned = assign_none 0 p OpenByte Q l; drop = omega arith }

  pub strikes_more : {n h r : ℕ} {a b c : List ℕ} → SlotsStruck (Below Q n) p h a b → SlotsStruck (Q n) p r b c → SlotsStruck (Below Q (n + 1)) p (h + r) a c
  strikes_more {n} {a = a} {b = b} {c = c} x y =
      record { assigned = assign_more 0 p OpenByte Q n a b c x.assigned y.assigned; drop = omega (arith, y.drop, x.drop) }

  -- after the last round, where the loop's test says that n is m
  pub strikes_at : {n m h : ℕ} {a b : List ℕ} → SlotsStruck (Below Q n) p h a b → n ≤ m → m ≤ n → SlotsStruck (Below Q m) p h a b
  strikes_at x l g = record { assigned = assign_at 0 p OpenByte Q x.assigned l g; drop = x.drop }

-- what is struck so far and next is no more than there are bytes
pub strikes_fit : {P Q : ℕ → Type 0} {p h r : ℕ} (a b c : List ℕ) → SlotsStruck P p h a b → SlotsStruck Q p r b c → h + r ≤ length a
strikes_fit a b c x y = omega (arith, y.drop, x.drop, count_le is_open a)

-- the set may be put in other words
pub strikes_same : (P Q : ℕ → Type 0) {p r : ℕ} {a b : List ℕ} → ((j : ℕ) → Q j → P j) → ((j : ℕ) → P j → Q j) → SlotsStruck P p r a b → SlotsStruck Q p r a b
strikes_same P Q {p} back forth x = record { assigned = assign_same 0 p OpenByte P Q back forth x.assigned; drop = x.drop }

module _ {Q : ℕ → Type 0} {p r : ℕ} (lp : p < 64) {old new : List ℕ} (x : SlotsStruck Q p r old new) where
  -- slots only go from open to struck
  pub strikes_only : OnlyLost 0 is_open is_struck old new
  strikes_only =
      record {
        len = x.assigned.len;
        each = λ j. ⊎_elim (λ e. inl e) (λ t. let z = t.1 in inr (eq-eqb (get_or old j 0) 255 t.0, lt-ltb (get_or new j 0) 64 (omega arith))) (x.assigned.each j);
      }

  -- a slot that is open was open
  pub was_open : (j : ℕ) → get_or new j 0 ≡ 255 → get_or old j 0 ≡ 255
  was_open j o = ⊎_elim (λ e. sym e ∙ o) (λ t. t.0) (x.assigned.each j)

  -- where none is struck nothing changed
  pub strikes_zero : r ≡ 0 → new ≡ old
  strikes_zero e = let d = x.drop in only_same 0 is_open is_struck open_not_struck old new strikes_only (omega arith)

  -- where some is, one of Q is
  pub strikes_some : 0 < r → (j : ℕ) × (get_or old j 0 ≡ 255) × (get_or new j 0 ≡ 255 → ⊥) × Q j
  strikes_some lt =
      let d = x.drop in
      let t = only_some 0 is_open is_struck open_not_struck old new strikes_only (omega arith) in
      let o : get_or old t.0 0 ≡ 255 = eqb-true (get_or old t.0 0) 255 t.2 in
      let z : get_or new t.0 0 < 64 = ltb-true (get_or new t.0 0) 64 t.3 in
      (t.0, o, (λ e. omega arith), ⊎_elim (λ e. absurd (omega arith)) (λ u. u.2) (x.assigned.each t.0))

-- of a set only the open slots count
pub strikes_open : (P Q : ℕ → Type 0) {p r : ℕ} {a b : List ℕ} → ((j : ℕ) → Q j → get_or a j 0 ≡ 255 → P j) → ((j : ℕ) → P j → Q j) → SlotsStruck P p r a b → SlotsStruck Q p r a b
strikes_open P Q back forth x =
    record {
      assigned = record {
        len = x.assigned.len;
        written = λ j q o. x.assigned.written j (back j q o) o;
        each = λ j. ⊎_elim (λ e. inl e) (λ t. inr (t.0, t.1, forth j t.2)) (x.assigned.each j);
      };
      drop = x.drop;
    }

-- THE SLOTS OF A MASK, from the lowest on: those that are not left are struck
pub record Striking (lost p c : ℕ) (old new : List ℕ) (left total : ℕ) : Type 0 where
  pub lowest_first : Left 32 lost left
  pub struck : SlotsStruck (Of (λ s j. j ≡ slot_place c s) (Removed lost left)) p total old new

-- at first all are left and none is struck
pub striking_none : (lost p c : ℕ) (l : List ℕ) → lost < 4294967296 → Striking lost p c l l lost 0
striking_none lost p c l h = record { lowest_first = left_all 32 lost h; struck = strikes_keep _ p l (λ j q o. q.1.out q.1.had) }

module _ {lost p c : ℕ} {old new : List ℕ} {left total : ℕ} (all : AllOpen old c lost) (some : left ≡ 0 → ⊥) (x : Striking lost p c old new left total) where
  pub slot_below : count_trailing_zeros 32 left < 32
  slot_below = (left_lowest some x.lowest_first).place

  -- the lowest slot is open still
  still_open : get_or new (slot_place c (count_trailing_zeros 32 left)) 0 ≡ 255
  still_open =
      ⊎_elim
      (λ e. e ∙ (all.each (count_trailing_zeros 32 left) (taken_lowest some x.lowest_first).had).1)
      (λ t.
      let q = t.2 in
      let z = q.2 in
      let same : q.0 ≡ count_trailing_zeros 32 left = omega arith in
      absurd (q.1.out (rw same (left_lowest some x.lowest_first).here)))
      (x.struck.assigned.each (slot_place c (count_trailing_zeros 32 left)))

  pub striking_more : p < 64 → slot_place c (count_trailing_zeros 32 left) < length new
      → Striking lost p c old (set new (slot_place c (count_trailing_zeros 32 left)) p) (bit_and left (left - 1)) (total + 1)
  striking_more lp l =
      let one = strikes_set (λ j. j ≡ slot_place c (count_trailing_zeros 32 left)) p (slot_place c (count_trailing_zeros 32 left)) new lp l still_open refl (λ j q. q) in
      record {
        lowest_first = left_more some x.lowest_first;
        struck = record {
          assigned = assign_lowest 0 p OpenByte _ some x.lowest_first x.struck.assigned one.assigned;
          drop = omega (arith, one.drop, x.struck.drop);
        };
      }

pub striking_done : {lost p c : ℕ} {old new : List ℕ} {left total : ℕ} → lost < 4294967296 → left ≡ 0 → Striking lost p c old new left total
    → SlotsStruck (CallWith (Has lost) c) p total old new
striking_done {lost} {p} {c} fits z x =
    strikes_same _ _
    (λ j y. (y.0, y.2.1, y.2.0))
    (λ j y. (y.0, has_below 32 lost y.0 fits y.1, (y.2, y.1)))
    (record { assigned = assign_taken 0 p OpenByte _ z x.struck.assigned; drop = x.struck.drop })

-- THE CALLS where a slot was struck: a call joins the mask, or the mask stays
pub call_joins : {calls c number : ℕ} → c < 32 → 0 < number → WithCall calls c number (bit_or calls (1 * 2 ^ c % 4294967296))
call_joins {calls} {c} l some =
    rw (shl_one 32 c l)
    (record {
      stays = λ d h. or_left calls (2 ^ c) d h;
      joins = λ s. or_right calls (2 ^ c) c (power_same c);
      only = λ d h. ⊎_elim (λ o. inl o) (λ o. inr (power_has c d o, some)) (or_either calls (2 ^ c) d h);
    })

pub call_none : {calls c number : ℕ} → number ≡ 0 → WithCall calls c number calls
call_none z = record { stays = λ d h. h; joins = λ s. absurd (omega arith); only = λ d h. inl h }

-- when the slots of one call more are struck
module _ (N : ℕ → Type 0) (c p : ℕ) (lp : p < 64) {Q : ℕ → Type 0} {h r : ℕ} (old mid new : List ℕ) (x : SlotsStruck Q p h old mid) (y : SlotsStruck (CallWith N c) p r mid new) where
  -- a call where one is struck had one struck before, or is c
  split : (e : ℕ) → StruckOn old new e → StruckOn old mid e ⊎ ((e ≡ c) × (0 < r))
  split e (s, ls, o, n) =
      ⊎_elim
      (λ (m : cause_of mid e s ≡ 255).
      ⊎_elim
      (λ k. absurd (n (k ∙ m)))
      (λ t.
      let w = t.2 in
      let l = w.1 in
      let z = w.2.0 in
      let some : r ≡ 0 → ⊥ = λ q. n (ap (λ (a : List ℕ). cause_of a e s) (strikes_zero lp y q) ∙ m) in
      inr (omega arith, omega arith))
      (y.assigned.each (slot_place e s)))
      (λ m. inl (s, ls, o, m))
      (eq_or_ne (cause_of mid e s) 255)

  -- one that had one struck has
  stays : (e : ℕ) → StruckOn old mid e → StruckOn old new e
  stays e (s, ls, o, n) = (s, ls, o, λ m. n (was_open lp y (slot_place e s) m))

  -- and so has c, where a slot of it is struck
  here : 0 < r → StruckOn old new c
  here lt =
      let t = strikes_some lp y lt in
      let w = t.3 in
      let e : t.0 ≡ slot_place c w.0 = w.2.0 in
      (w.0, w.1, was_open lp x (slot_place c w.0) (rw e at t.1), rw e at t.2)

  pub calls_more : {calls after : ℕ} → c < 32 → IsMask (StruckOn old mid) 32 calls → WithCall calls c r after → IsMask (StruckOn old new) 32 after
  calls_more {calls} {after} lc m w =
      record {
        has = λ e le s. ⊎_elim (λ o. w.stays e (m.has e le o)) (λ t. rw t.0 (w.joins t.1)) (split e s);
        only = λ e i.
            ⊎_elim
            (λ o. let f = m.only e o in (f.0, stays e f.1))
            (λ t. let q : e ≡ c = t.0 in rw q (lc, here t.1))
            (w.only e i);
      }

-- the loop over the columns: before the first, one more, and after the last
module _ (N : ℕ → ℕ → Type 0) (scope : List ℕ) (p : ℕ) where
  pub columns_none : (l : List ℕ) → ColumnsStruck N scope p 0 0 0 l l
  columns_none l =
      record {
        strikes = strikes_none _ p l;
        calls_struck = record { has = λ c lc x. absurd (x.3 x.2); only = λ c h. absurd (has_some 0 c h refl) };
      }

  pub columns_more : {k h r calls after : ℕ} {a b d : List ℕ} → p < 64 → ColumnsStruck N scope p k h calls a b → SlotsStruck (ColumnWith N scope p k) p r b d
      → WithCall calls (call_of scope p k) r after → ColumnsStruck N scope p (k + 1) (h + r) after a d
  columns_more {k} {a = a} {b = b} {d = d} lp x y w =
      record {
        strikes = strikes_more (ColumnWith N scope p) p x.strikes y;
        calls_struck = calls_more (N k) (call_of scope p k) p lp a b d x.strikes y (omega arith) x.calls_struck w;
      }

  pub columns_at_lem : {k n h calls : ℕ} {a b : List ℕ} → ColumnsStruck N scope p k h calls a b → k ≤ n → n ≤ k → ColumnsStruck N scope p n h calls a b
  columns_at_lem x l g = record { strikes = strikes_at _ p x.strikes l g; calls_struck = x.calls_struck }
