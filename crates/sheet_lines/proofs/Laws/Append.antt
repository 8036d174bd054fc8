-- Bytes after bytes, and the room for them. Assumes nothing.
use Rattle.std.specs.Prelude.{◌≡◌, refl, List, [], ◌∷◌, ◌++◌, ℕ, ◌+◌, ◌≤◌, ◌<◌, length, take, drop, set}
use Rattle.std.proofs.Common.{sym, ap, ◌∙◌, append_assoc, append-nil, add-one, arith, length-set, length-append, take-suc-set, drop-set-lt, drop-drop}
use Rattle.sheet_lines.specs.Append.{Room, Appended, all_parts, Split, RoomFor}

pub append_none : (at : ℕ) (l : List ℕ) → Appended [] at l l at
append_none at l = record { place = omega arith; size = refl; written = sym (append-nil (take at l)); behind = refl }

pub append_one : (at b : ℕ) (l : List ℕ) → at < length l → Appended (b ∷ []) at l (set l at b) (at + 1)
append_one at b l h =
    record {
      place = refl;
      size = length-set l at b;
      written = ap (λ (k : ℕ). take k (set l at b)) (add-one at) ∙ take-suc-set l at b h;
      behind = drop-set-lt (at + 1) l at b (omega arith);
    }

-- bytes after bytes
pub append_more : {xs ys : List ℕ} {at m r : ℕ} {old mid new : List ℕ} → Appended xs at old mid m → Appended ys m mid new r → Appended (xs ++ ys) at old new r
append_more {xs} {ys} {at} {m} {r} {old} {mid} {new} x y =
    record {
      place = y.place ∙ ap (λ (k : ℕ). k + length ys) x.place ∙ omega (arith, length-append xs ys);
      size = y.size ∙ x.size;
      written = y.written ∙ ap (λ (l : List ℕ). l ++ ys) x.written ∙ append_assoc (take at old) xs ys;
      behind = y.behind ∙ later;
    }
  where
    later : drop r mid ≡ drop r old
    later = rw (y.place, ← drop-drop (length ys) m mid, ← drop-drop (length ys) m old, x.behind) refl

-- room for more is room for less
pub room_less : {at m n : ℕ} {out : List ℕ} → Room at n out → m ≤ n → Room at m out
room_less r h = let f = r.fits in record { fits = omega arith }

-- room for bytes and more is room for the more, once the bytes are written
pub room_after : {bytes : List ℕ} {at m n k : ℕ} {old mid : List ℕ} → Room at n old → Appended bytes at old mid m → length bytes + k ≤ n → Room m k mid
room_after r a h =
    let f = r.fits in
    let p = a.place in
    let s = a.size in
    record { fits = omega arith }

-- the bytes may be put in other words
pub append_same : {xs ys : List ℕ} {at r : ℕ} {old new : List ℕ} → xs ≡ ys → Appended xs at old new r → Appended ys at old new r
append_same e x = rw e at x

pub room_same : {xs ys : List ℕ} {at : ℕ} {out : List ℕ} → xs ≡ ys → Room at (length xs) out → Room at (length ys) out
room_same e r = rw e at r

pub room_parts : {parts : List (List ℕ)} {bytes : List ℕ} {at : ℕ} {out : List ℕ} → Split parts bytes → Room at (length bytes) out → RoomFor parts at out
room_parts e r = record { room = rw e.same r }

-- room for parts is room for the first of them, and once that is written for the rest
pub room_first : {x : List ℕ} {xs : List (List ℕ)} {at : ℕ} {out : List ℕ} → RoomFor (x ∷ xs) at out → Room at (length x) out
room_first {x} {xs} r = let f = r.room.fits in record { fits = omega (arith, length-append x (all_parts xs)) }

pub room_rest : {x : List ℕ} {xs : List (List ℕ)} {at m : ℕ} {old mid : List ℕ} → RoomFor (x ∷ xs) at old → Appended x at old mid m → RoomFor xs m mid
room_rest {x} {xs} r a = record { room = room_after r.room a (omega (arith, length-append x (all_parts xs))) }
