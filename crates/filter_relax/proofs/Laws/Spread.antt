-- The table of the visited slots as flags, and what a function that visits slots leaves: one set of slots, one after another, round by round. Assumes nothing.
use Rattle.std.specs.Prelude.{◌≡◌, refl, List, ◌⊎◌, Bool, true, false, not, ℕ, ◌+◌, ◌*◌, ◌/◌, ◌%◌, ◌^◌, ◌≤◌, ◌<◌, eqb, length, get_or, set, replicate}
use Rattle.std.proofs.Common.{sym, ap, ◌∙◌, inl, inr, ⊎_elim, eq-or-lt_of_le, arith, ne_eqb, length-set, get_or-set_same, get_or-set_other}
use Rattle.std.specs.Int.Bits.{bit_or}
use Rattle.std.proofs.lemmas.List.{get_or-replicate, length-replicate}
use Rattle.std.proofs.Math.ListN.{get_or-eq_default}
use Rattle.tables.specs.Assign.{Any, Below}
use Rattle.tables.specs.Lost.{SameOrLost}
use Rattle.tables.specs.Masks.{bit_of, Has, all_flags}
use Rattle.tables.specs.Laws.Assign.{assign_keep, assign_same, assign_more}
use Rattle.tables.specs.Laws.Facts.{true_false, eq_or_ne, lt_or_le}
use Rattle.tables.specs.Laws.Flags.{all_length, all_at, all_set, all_has}
use Rattle.tables.specs.Laws.Lost.{only_none}
use Rattle.tables.specs.Laws.Masks.{bit_zero, bit_or_lem, power_same, shl_one, power_has, has_some, some_has, has_or_not, not_has, or_left, or_right, or_either}
use Rattle.filter_propagate.specs.Queue.{IsFlagged}
use Rattle.layout.specs.Places.{slot_place}
use Rattle.layout.specs.Sizes.{slots_length}
use Rattle.filter_relax.specs.Spread.{is_visited, CallMask, HasSlot, Adds, NewOn, Spread}

-- the flag of a slot that its call's mask does not have is clear
pub not_visited : (visited : List ℕ) → length visited ≡ 32 → (c s : ℕ) → c < 32 → s < 32 → (Has (get_or visited c 0) s → ⊥) → get_or (all_flags 32 visited) (slot_place c s) false ≡ false
not_visited visited size c s lc ls n = all_at 32 visited c s (omega arith) ls ∙ ne_eqb (bit_of (get_or visited c 0) s) 1 n

pub visited_length : (visited : List ℕ) → length visited ≡ 32 → length (all_flags 32 visited) ≡ slots_length
visited_length visited size = all_length 32 visited ∙ omega arith

-- two tables of masks have the same flags of call c where the masks have the same bits
same_flag : (a b : List ℕ) (c s : ℕ) → length a ≡ 32 → length b ≡ 32 → c < 32 → s < 32 → bit_of (get_or b c 0) s ≡ bit_of (get_or a c 0) s
    → get_or (all_flags 32 b) (slot_place c s) false ≡ get_or (all_flags 32 a) (slot_place c s) false
same_flag a b c s la lb lc ls e = all_at 32 b c s (omega arith) ls ∙ ap (λ (x : ℕ). eqb x 1) e ∙ sym (all_at 32 a c s (omega arith) ls)

-- a flag that is set is within the table
pub flag_in : (l : List Bool) (j : ℕ) → IsFlagged l j → j < length l
flag_in l j o = ⊎_elim (λ h. h) (λ (le : length l ≤ j). absurd (true_false o (get_or-eq_default l false le))) (lt_or_le j (length l))

-- a byte of the table is that of a slot of a call
pub place_of : (j : ℕ) → slot_place (j / 32) (j % 32) ≡ j
place_of j = omega arith

-- empty masks have no flag
pub none_visited : (j : ℕ) → IsFlagged (all_flags 32 (replicate 32 0)) j → ⊥
none_visited j o =
    let size : length (replicate {A = ℕ} 32 0) ≡ 32 = length-replicate {A = ℕ} 32 0 in
    let l = flag_in (all_flags 32 (replicate 32 0)) j o in
    let lc : j / 32 < 32 = omega (arith, visited_length (replicate 32 0) size) in
    let h = all_has 32 (replicate 32 0) (j / 32) (j % 32) (omega arith) (rw (place_of j) o) in
    has_some (get_or (replicate {A = ℕ} 32 0) (j / 32) 0) (j % 32) h (get_or-replicate {A = ℕ} 32 (j / 32) 0 0 lc)

-- SLOTS ARE VISITED: no store, where there is none of them
pub adds_empty : {Q : ℕ → Type 0} (l : List ℕ) (calls : ℕ) → ((j : ℕ) → Q j → ⊥) → Adds Q l l calls calls
adds_empty l calls none =
    record {
      visited = assign_keep false true Any _ (all_flags 32 l) (λ j q f. absurd (none j q));
      stays = λ c h. h;
      joins = λ c x. absurd (none (slot_place c x.0) x.2);
      only = λ c h. inl h;
    }

-- an empty mask
pub adds_zero : (l : List ℕ) (c mask calls : ℕ) → mask ≡ 0 → Adds (CallMask c mask) l l calls calls
adds_zero l c mask calls e = adds_empty l calls (λ j x. has_some mask x.0 x.3 e)

-- the slots of a mask that is not empty join those of their call
module _ (l : List ℕ) (c mask calls : ℕ) (size : length l ≡ 32) (lc : c < 32) (lm : mask < 2 ^ 32) (some : mask ≡ 0 → ⊥) where
  pub adds_mask : Adds (CallMask c mask) l (set l c (bit_or (get_or l c 0) mask)) calls (bit_or calls (1 * 2 ^ c % 4294967296))
  adds_mask = rw (shl_one 32 c lc) (record { visited = record { len = len; written = written; each = each }; stays = λ d h. or_left calls (2 ^ c) d h; joins = joins; only = only })
    where
      new : List ℕ
      new = set l c (bit_or (get_or l c 0) mask)

      size' : length new ≡ 32
      size' = length-set l c (bit_or (get_or l c 0) mask) ∙ size

      len : length (all_flags 32 new) ≡ length (all_flags 32 l)
      len = visited_length new size' ∙ sym (visited_length l size)

      here : get_or new c 0 ≡ bit_or (get_or l c 0) mask
      here = get_or-set_same l c (bit_or (get_or l c 0) mask) 0 (omega arith)

      flag : (s : ℕ) → s < 32 → Has mask s → IsFlagged (all_flags 32 new) (slot_place c s)
      flag s ls h = all_set 32 new c s ls (rw here (or_right (get_or l c 0) mask s h))

      written : (j : ℕ) → CallMask c mask j → Any (get_or (all_flags 32 l) j false) → IsFlagged (all_flags 32 new) j
      written j x f = rw x.2 (flag x.0 x.1 x.3)

      Each : ℕ → Type 0
      Each j = (get_or (all_flags 32 new) j false ≡ get_or (all_flags 32 l) j false) ⊎ (Any (get_or (all_flags 32 l) j false) × IsFlagged (all_flags 32 new) j × CallMask c mask j)

      at : (d s : ℕ) → d < 32 → s < 32 → Each (slot_place d s)
      at d s ld ls =
          ⊎_elim
          (λ (e : d ≡ c).
          rw e
          (⊎_elim
          (λ h. inr (tt, flag s ls h, (s, ls, refl, h)))
          (λ (n : Has mask s → ⊥). inl (same_flag l new c s size size' lc ls (rw here (omega (arith, bit_or_lem (get_or l c 0) mask s, not_has mask s n)))))
          (has_or_not mask s)))
          (λ ne. inl (same_flag l new d s size size' ld ls (ap (λ (x : ℕ). bit_of x s) (get_or-set_other l c d (bit_or (get_or l c 0) mask) 0 ne))))
          (eq_or_ne d c)

      each : (j : ℕ) → Each j
      each j =
          ⊎_elim
          (λ (lt : j < slots_length). rw (place_of j) at (at (j / 32) (j % 32) (omega arith) (omega arith)))
          (λ (ge : slots_length ≤ j).
          inl
          (get_or-eq_default (all_flags 32 new) false (omega (arith, visited_length new size'))
          ∙ sym (get_or-eq_default (all_flags 32 l) false (omega (arith, visited_length l size)))))
          (lt_or_le j slots_length)

      joins : (d : ℕ) → HasSlot (CallMask c mask) d → Has (bit_or calls (2 ^ c)) d
      joins d x =
          let y = x.2 in
          let ls = x.1 in
          let lt = y.1 in
          let p = y.2 in
          let e : d ≡ c = omega arith in
          rw e (or_right calls (2 ^ c) c (power_same c))

      only : (d : ℕ) → Has (bit_or calls (2 ^ c)) d → Has calls d ⊎ HasSlot (CallMask c mask) d
      only d h =
          ⊎_elim
          (λ o. inl o)
          (λ o.
          let z = some_has 32 mask lm some in
          let e : d ≡ c = power_has c d o in
          inr (z.0, z.1, (z.0, z.1, rw e refl, z.2)))
          (or_either calls (2 ^ c) d h)

-- the set may be put in other words
pub adds_same : (P Q : ℕ → Type 0) {a b : List ℕ} {before after : ℕ} → ((j : ℕ) → Q j → P j) → ((j : ℕ) → P j → Q j) → Adds P a b before after → Adds Q a b before after
adds_same P Q back forth x =
    record {
      visited = assign_same false true Any P Q back forth x.visited;
      stays = x.stays;
      joins = λ c h. x.joins c (h.0, h.1, back (slot_place c h.0) h.2);
      only = λ c o. ⊎_elim (λ z. inl z) (λ h. inr (h.0, h.1, forth (slot_place c h.0) h.2)) (x.only c o);
    }

-- ROUND BY ROUND, one set more in each
module _ (Q : ℕ → ℕ → Type 0) where
  pub adds_none : (l : List ℕ) (calls : ℕ) → Adds (Below Q 0) l l calls calls
  adds_none l calls = adds_empty l calls (λ j q. let z = q.1 in omega arith)

  pub adds_more : {n : ℕ} {a b e : List ℕ} {before mid after : ℕ} → Adds (Below Q n) a b before mid → Adds (Q n) b e mid after → Adds (Below Q (n + 1)) a e before after
  adds_more {n} x y =
      record {
        visited = assign_more false true Any Q _ _ _ _ x.visited y.visited;
        stays = λ c h. y.stays c (x.stays c h);
        joins = λ c h.
            let i = h.2 in
            let lt = i.1 in
            let le : i.0 ≤ n = omega arith in
            ⊎_elim
            (λ (e : i.0 ≡ n). y.joins c (h.0, h.1, rw e at i.2))
            (λ (l : i.0 < n). y.stays c (x.joins c (h.0, h.1, (i.0, l, i.2))))
            (eq-or-lt_of_le le);
        only = λ c o.
            ⊎_elim
            (λ m. ⊎_elim (λ z. inl z) (λ h. let i = h.2 in let lt = i.1 in inr (h.0, h.1, (i.0, omega arith, i.2))) (x.only c m))
            (λ h. inr (h.0, h.1, (n, omega arith, h.2)))
            (y.only c o);
      }

  pub adds_at : {n m : ℕ} {a b : List ℕ} {before after : ℕ} → Adds (Below Q n) a b before after → n ≤ m → m ≤ n → Adds (Below Q m) a b before after
  adds_at {n} {m} x l g = let e : m ≡ n = omega arith in rw e x

-- the table of masks keeps its length
pub adds_size : {Q : ℕ → Type 0} {a b : List ℕ} {before after : ℕ} → Adds Q a b before after → length b ≡ length a
adds_size {a = a} {b = b} x = omega (arith, x.visited.len, all_length 32 a, all_length 32 b)

-- WHICH CALLS HAVE A NEW ONE: those that the slots are on, where none of them was visited
pub adds_spread : {Q : ℕ → Type 0} {a b : List ℕ} {calls : ℕ} → length a ≡ 32 → ((j : ℕ) → Q j → get_or (all_flags 32 a) j false ≡ false) → Adds Q a b 0 calls
    → Spread (all_flags 32 a) (all_flags 32 b) calls
adds_spread {Q} {a} {b} {calls} size off x = record { only = record { len = x.visited.len; each = each }; calls_new = record { has = has; only = only } }
  where
    each : (j : ℕ) → SameOrLost not is_visited (get_or (all_flags 32 a) j false) (get_or (all_flags 32 b) j false)
    each j = ⊎_elim (λ e. inl e) (λ t. inr (rw (off j t.2) refl, t.1)) (x.visited.each j)

    has : (c : ℕ) → c < 32 → NewOn (all_flags 32 a) (all_flags 32 b) c → Has calls c
    has c l n = ⊎_elim (λ e. absurd (true_false n.3 (e ∙ n.2))) (λ t. x.joins c (n.0, n.1, t.2)) (x.visited.each (slot_place c n.0))

    only : (c : ℕ) → Has calls c → (c < 32) × NewOn (all_flags 32 a) (all_flags 32 b) c
    only c h =
        ⊎_elim
        (λ (z : Has 0 c). absurd (omega (arith, bit_zero c)))
        (λ y.
        let on = x.visited.written (slot_place c y.0) y.2 tt in
        let l = flag_in (all_flags 32 b) (slot_place c y.0) on in
        (omega (arith, x.visited.len, visited_length a size), (y.0, y.1, off (slot_place c y.0) y.2, on)))
        (x.only c h)

pub unvisited_not : (x : Bool) → not x ≡ true → is_visited x ≡ false
unvisited_not true e = absurd (true_false e refl)
unvisited_not false e = refl

-- where nothing is new no call has a new one
pub spread_none : (l : List Bool) → Spread l l 0
spread_none l =
    record {
      only = only_none false not is_visited unvisited_not l;
      calls_new = record { has = λ c lt n. absurd (true_false n.3 n.2); only = λ c h. absurd (omega (arith, bit_zero c)) };
    }

-- a visited slot stays
pub spread_stays : {old new : List Bool} {calls : ℕ} → Spread old new calls → (j : ℕ) → IsFlagged old j → IsFlagged new j
spread_stays x j o = ⊎_elim (λ e. e ∙ o) (λ t. t.1) (x.only.each j)
