-- Reopening call by call, and how many slots are reopened. Assumes nothing.
use Rattle.std.specs.Prelude.{◌≡◌, refl, List, [], ◌∷◌, Bool, true, false, ℕ, zero, suc, ◌+◌, ◌-◌, ◌*◌, ◌/◌, ◌^◌, ◌≤◌, ◌<◌, length, get_or, set}
use Rattle.std.proofs.Common.{ap, ⊎_elim, arith, ne_eqb}
use Rattle.std.specs.Int.Bits.{bit_and}
use Rattle.std.specs.Int.Count.{ones, count_trailing_zeros}
use Rattle.tables.specs.Assign.{Assigned}
use Rattle.tables.specs.Count.{count}
use Rattle.tables.specs.Masks.{bit_of, Has, flags_of, all_flags}
use Rattle.tables.specs.Laws.Assign.{assign_set, assign_same}
use Rattle.tables.specs.Laws.Count.{count_le, count_append, count_clear}
use Rattle.tables.specs.Laws.Facts.{true_false}
use Rattle.tables.specs.Laws.Flags.{flags_length, flags_set, flag_set, flag_has, flag_below, all_set, all_place, count_flags}
use Rattle.tables.specs.Laws.Left.{Left, Removed, Of, left_all, left_lowest, left_more, assign_left, assign_lowest, assign_taken}
use Rattle.tables.specs.Laws.Masks.{has_below}
use Rattle.filter_propagate.specs.Queue.{IsFlagged}
use Rattle.filter_relax.specs.Touched.{Covers}
use Rattle.filter_relax.specs.Spread.{is_visited, CallMask}
use Rattle.filter_relax.specs.Reopen.{AnyByte, Reopened}
use Rattle.layout.specs.Places.{slot_place}

-- THE SLOTS OF A MASK, from the lowest on: those that are not left are open
pub record SlotsReopened (c mask left : ℕ) (old new : List ℕ) : Type 0 where
  pub lowest : Left 32 mask left
  pub slots : Assigned 0 255 AnyByte (Of (λ s j. j ≡ slot_place c s) (Removed mask left)) old new

pub slots_none : (c mask : ℕ) (l : List ℕ) → mask < 2 ^ 32 → SlotsReopened c mask mask l l
slots_none c mask l h = record { lowest = left_all 32 mask h; slots = assign_left 0 255 AnyByte _ mask l }

pub slots_more : {c mask left : ℕ} {old new : List ℕ} → (left ≡ 0 → ⊥) → slot_place c (count_trailing_zeros 32 left) < length new → SlotsReopened c mask left old new
    → SlotsReopened c mask (bit_and left (left - 1)) old (set new (slot_place c (count_trailing_zeros 32 left)) 255)
slots_more {c} {new = new} some h x =
    record {
      lowest = left_more some x.lowest;
      slots = assign_lowest 0 255 AnyByte _ some x.lowest x.slots (assign_set 0 255 AnyByte _ _ new h tt refl (λ j e. e));
    }

pub slots_done : {c mask left : ℕ} {old new : List ℕ} → mask < 2 ^ 32 → left ≡ 0 → SlotsReopened c mask left old new → Assigned 0 255 AnyByte (CallMask c mask) old new
slots_done {mask = mask} h z x =
    assign_same 0 255 AnyByte _ _ (λ j y. (y.0, y.3, y.2)) (λ j y. (y.0, has_below 32 mask y.0 h y.1, y.2, y.1)) (assign_taken 0 255 AnyByte _ z x.slots)

-- THE NUMBER OF VISITED SLOTS of the calls whose flag is set
pub visited_of : List Bool → List ℕ → ℕ
visited_of [] ms = 0
visited_of (f ∷ fs) [] = 0
visited_of (true ∷ fs) (m ∷ ms) = count is_visited (flags_of 32 m) + visited_of fs ms
visited_of (false ∷ fs) (m ∷ ms) = visited_of fs ms

-- a call has no more than 32
pub call_le : (m : ℕ) → count is_visited (flags_of 32 m) ≤ 32
call_le m = omega (arith, count_le is_visited (flags_of 32 m), flags_length 32 m)

visited_le : (fs : List Bool) (ms : List ℕ) → visited_of fs ms ≤ 32 * length fs
unfolding visited_of
visited_le [] ms = omega arith
visited_le (f ∷ fs) [] = omega arith
visited_le (true ∷ fs) (m ∷ ms) = omega (arith, visited_le fs ms, call_le m)
visited_le (false ∷ fs) (m ∷ ms) = omega (arith, visited_le fs ms)

-- of no call there is none
visited_none : (n : ℕ) (ms : List ℕ) → visited_of (flags_of n 0) ms ≡ 0
unfolding visited_of flags_of
visited_none zero ms = refl
visited_none (suc n) [] = refl
visited_none (suc n) (m ∷ ms) = visited_none n ms

pub zero_none : count is_visited (flags_of 32 0) ≡ 0
unfolding ones
zero_none = count_flags 32 0 (omega arith)

-- where one flag is taken away, there are fewer by those of its call
visited_clear : (fs : List Bool) (ms : List ℕ) (t : ℕ) → get_or fs t false ≡ true → count is_visited (flags_of 32 (get_or ms t 0)) + visited_of (set fs t false) ms ≡ visited_of fs ms
unfolding visited_of
visited_clear [] ms t o = absurd (true_false o refl)
visited_clear (f ∷ fs) [] zero o = omega (arith, zero_none)
visited_clear (f ∷ fs) [] (suc t) o = omega (arith, zero_none)
visited_clear (true ∷ fs) (m ∷ ms) zero o = refl
visited_clear (false ∷ fs) (m ∷ ms) zero o = absurd (true_false o refl)
visited_clear (true ∷ fs) (m ∷ ms) (suc t) o = omega (arith, visited_clear fs ms t o)
visited_clear (false ∷ fs) (m ∷ ms) (suc t) o = visited_clear fs ms t o

-- where a call whose flag is clear has none, they are all
visited_all : (fs : List Bool) (ms : List ℕ) → ((c : ℕ) → get_or fs c false ≡ false → count is_visited (flags_of 32 (get_or ms c 0)) ≡ 0) → visited_of fs ms ≡ count is_visited (all_flags 32 ms)
unfolding visited_of all_flags
visited_all [] [] clear = refl
visited_all (f ∷ fs) [] clear = refl
visited_all [] (m ∷ ms) clear = omega (arith, count_append is_visited (flags_of 32 m) (all_flags 32 ms), clear 0 refl, visited_all [] ms (λ c e. clear (suc c) refl))
visited_all (true ∷ fs) (m ∷ ms) clear = omega (arith, count_append is_visited (flags_of 32 m) (all_flags 32 ms), visited_all fs ms (λ c e. clear (suc c) e))
visited_all (false ∷ fs) (m ∷ ms) clear = omega (arith, count_append is_visited (flags_of 32 m) (all_flags 32 ms), clear 0 refl, visited_all fs ms (λ c e. clear (suc c) e))

-- THE CALLS OF A MASK, from the lowest on: the visited slots of those that are not left are open; total is their number
pub record CallsReopened (total calls left : ℕ) (visited old new : List ℕ) : Type 0 where
  pub lowest : Left 32 calls left
  pub slots : Assigned 0 255 AnyByte (Of (λ c. CallMask c (get_or visited c 0)) (Removed calls left)) old new
  pub number : total + visited_of (flags_of 32 left) visited ≡ visited_of (flags_of 32 calls) visited

pub calls_none : (calls : ℕ) (visited l : List ℕ) → calls < 2 ^ 32 → CallsReopened 0 calls calls visited l l
calls_none calls visited l h = record { lowest = left_all 32 calls h; slots = assign_left 0 255 AnyByte _ calls l; number = omega arith }

module _ {total calls left : ℕ} {visited old mid : List ℕ} (x : CallsReopened total calls left visited old mid) where
  -- there are never more than slots
  pub total_few : total ≤ 1024
  total_few = omega (arith, x.number, visited_le (flags_of 32 calls) visited, flags_length 32 calls)

  module _ (some : left ≡ 0 → ⊥) where
    -- those of the lowest call are no longer left
    visited_lowest : count is_visited (flags_of 32 (get_or visited (count_trailing_zeros 32 left) 0)) + visited_of (flags_of 32 (bit_and left (left - 1))) visited ≡ visited_of (flags_of 32 left) visited
    visited_lowest =
        let t = count_trailing_zeros 32 left in
        let l = left_lowest some x.lowest in
        let e = flags_set 32 left (bit_and left (left - 1)) t false l.place (ne_eqb _ 1 (λ (h : bit_of (bit_and left (left - 1)) t ≡ 1). omega (arith, l.gone))) (λ q lq ne. l.others q ne) in
        rw e (visited_clear (flags_of 32 left) visited t (flag_set 32 left t l.place l.here))

    pub calls_more : {r : ℕ} {new : List ℕ} → Assigned 0 255 AnyByte (CallMask (count_trailing_zeros 32 left) (get_or visited (count_trailing_zeros 32 left) 0)) mid new
        → r ≡ count is_visited (flags_of 32 (get_or visited (count_trailing_zeros 32 left) 0)) → CallsReopened (total + r) calls (bit_and left (left - 1)) visited old new
    calls_more y e =
        record {
          lowest = left_more some x.lowest;
          slots = assign_lowest 0 255 AnyByte _ some x.lowest x.slots y;
          number = omega (arith, visited_lowest, x.number);
        }

-- after the last round
module _ (calls : ℕ) (visited : List ℕ) (covers : Covers (flags_of 32 calls) (all_flags 32 visited)) where
  -- a call that is not in the mask has no visited slot
  clear_none : (c : ℕ) → get_or (flags_of 32 calls) c false ≡ false → count is_visited (flags_of 32 (get_or visited c 0)) ≡ 0
  clear_none c off = count_clear (flags_of 32 (get_or visited c 0)) (λ s o. true_false (here s o) off)
    where
      here : (s : ℕ) → IsFlagged (flags_of 32 (get_or visited c 0)) s → IsFlagged (flags_of 32 calls) c
      here s o =
          let lt = flag_below 32 (get_or visited c 0) s o in
          let at : (32 * c + s) / 32 ≡ c = omega arith in
          rw at at (covers (32 * c + s) (all_set 32 visited c s lt (flag_has 32 (get_or visited c 0) s lt o)))

  pub calls_done : {total left : ℕ} {old new : List ℕ} → left ≡ 0 → CallsReopened total calls left visited old new → Reopened total (all_flags 32 visited) old new
  calls_done {total} {left} {old} {new} z x =
      record {
        size = m.len;
        opened = opened;
        kept = kept;
        total =
            omega
            (arith, x.number, visited_all (flags_of 32 calls) visited clear_none, ap (λ (l : ℕ). visited_of (flags_of 32 l) visited) z, visited_none 32 visited);
      }
    where
      m : Assigned 0 255 AnyByte (Of (λ c. CallMask c (get_or visited c 0)) (Has calls)) old new
      m = assign_taken 0 255 AnyByte _ z x.slots

      opened : (j : ℕ) → IsFlagged (all_flags 32 visited) j → get_or new j 0 ≡ 255
      opened j o =
          let p = all_place 32 visited j o in
          let ls = p.3 in
          let is = p.4 in
          let at : j / 32 ≡ p.0 = omega arith in
          let f = rw at at (covers j o) in
          m.written j (p.0, flag_has 32 calls p.0 (flag_below 32 calls p.0 f) f, (p.1, p.3, p.4, p.5)) tt

      kept : (j : ℕ) → (IsFlagged (all_flags 32 visited) j → ⊥) → get_or new j 0 ≡ get_or old j 0
      kept j out =
          ⊎_elim
          (λ e. e)
          (λ t.
          let c = t.2.0 in
          let y = t.2.2 in
          let e : j ≡ 32 * c + y.0 = y.2 in
          absurd (out (rw e (all_set 32 visited c y.0 y.1 y.3))))
          (m.each j)
