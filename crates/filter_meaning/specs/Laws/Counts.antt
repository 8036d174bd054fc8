-- The counts of the report, which go by call and slot, are those of the tables, which go along the bytes; and how many slots a relaxation reopens. Assumes nothing.
use Rattle.std.specs.Prelude.{◌≡◌, refl, Bool, true, false, ◌&&◌, cond, List, [], ◌∷◌, ◌⊎◌, ℕ, zero, suc, ◌+◌, ◌*◌, ◌-◌, ◌/◌, ◌%◌, ◌<◌, length, get_or, T}
use Rattle.std.proofs.Common.{sym, ap, ◌∙◌, inl, inr, ⊎_elim, arith, eqb-true, ltb-true, ne_eqb, lt-ltb}
use Rattle.tables.specs.Count.{bit, count}
use Rattle.tables.specs.Lost.{lost, SameOrLost, OnlyLost}
use Rattle.model.specs.Tests.{count_below}
use Rattle.model.specs.Report.{slot_count, struck_between, reopened_between, struck_in}
use Rattle.model.proofs.Laws.Tests.{and→, not→, count_same, count_none}
use Rattle.filter_support.specs.Strikes.{is_open, is_struck}
use Rattle.layout.specs.Places.{cause_of}
use Rattle.tables.specs.Laws.Lost.{lost_back}
use Rattle.filter_support.specs.Laws.Strikes.{open_not_struck}
use Rattle.tables.specs.Laws.Facts.{true_false, true_or_false}
use Rattle.filter_relax.specs.Spread.{is_visited}
use Rattle.filter_meaning.specs.Counts.{Neither, Reopening}
use Rattle.filter_meaning.specs.Relaxing.{visited_test}
use Rattle.layout.specs.Sizes.{slots_length}

-- COUNTS BY INDEX AND ALONG A LIST
one_or_none : (b : Bool) → cond b 1 0 ≡ bit b
one_or_none true = refl
one_or_none false = refl

-- a count by index may take the first number first
count_first : (n : ℕ) (f : ℕ → Bool) → count_below (suc n) f ≡ bit (f 0) + count_below n (λ i. f (suc i))
count_first zero f = omega (arith, one_or_none (f 0))
count_first (suc n) f = omega (arith, count_first n f)

pub count_along : (f : ℕ → Bool) (l : List ℕ) → count f l ≡ count_below (length l) (λ i. f (get_or l i 0))
count_along f [] = refl
count_along f (x ∷ xs) = omega (arith, count_along f xs, count_first (length xs) (λ i. f (get_or (x ∷ xs) i 0)))

pub lost_along : (f g : ℕ → Bool) (xs ys : List ℕ) → length ys ≡ length xs → lost f g xs ys ≡ count_below (length xs) (λ i. f (get_or xs i 0) && g (get_or ys i 0))
lost_along f g [] ys e = refl
lost_along f g (x ∷ xs) [] e = absurd (omega arith)
lost_along f g (x ∷ xs) (y ∷ ys) e =
    omega (arith, lost_along f g xs ys (omega arith), count_first (length xs) (λ i. f (get_or (x ∷ xs) i 0) && g (get_or (y ∷ ys) i 0)))

-- the byte of slot i % 32 of call i / 32 is byte i
at_byte : (l : List ℕ) (i : ℕ) → cause_of l (i / 32) (i % 32) ≡ get_or l i 0
at_byte l i = let e : 32 * (i / 32) + i % 32 ≡ i = omega arith in ap (λ (j : ℕ). get_or l j 0) e

-- so tests of the slots' bytes count along the list
pub lost_slots : (f g : ℕ → Bool) (before after : List ℕ) → length before ≡ slots_length → length after ≡ slots_length
    → lost f g before after ≡ slot_count (λ c s. f (cause_of before c s) && g (cause_of after c s))
lost_slots f g before after eb ea =
    lost_along f g before after (ea ∙ sym eb)
    ∙ ap (λ (n : ℕ). count_below n (λ i. f (get_or before i 0) && g (get_or after i 0))) eb
    ∙ count_same slots_length (λ i. f (get_or before i 0) && g (get_or after i 0)) (λ i. f (cause_of before (i / 32) (i % 32)) && g (cause_of after (i / 32) (i % 32)))
    (λ i h. rw (at_byte before i, at_byte after i) refl)

pub count_slots : (f : ℕ → Bool) (slots : List ℕ) → length slots ≡ slots_length → count f slots ≡ slot_count (λ c s. f (cause_of slots c s))
count_slots f slots e =
    count_along f slots
    ∙ ap (λ (n : ℕ). count_below n (λ i. f (get_or slots i 0))) e
    ∙ count_same slots_length (λ i. f (get_or slots i 0)) (λ i. f (cause_of slots (i / 32) (i % 32))) (λ i h. rw (at_byte slots i) refl)

-- THE REPORT'S COUNTS
pub lost_struck : (before after : List ℕ) → length before ≡ slots_length → length after ≡ slots_length → lost is_open is_struck before after ≡ struck_between before after
lost_struck before after = lost_slots is_open is_struck before after

pub lost_reopened : (before after : List ℕ) → length before ≡ slots_length → length after ≡ slots_length → lost is_struck is_open before after ≡ reopened_between before after
lost_reopened before after = lost_slots is_struck is_open before after

pub count_struck : (slots : List ℕ) → length slots ≡ slots_length → count is_struck slots ≡ struck_in slots
count_struck slots = count_slots is_struck slots

and_false : (a : Bool) → bit (a && false) + 0 ≡ 0
and_false true = refl
and_false false = refl

-- no byte is open and struck
apart_zero : (x : ℕ) → bit (is_struck x && is_open x) + bit (is_open x && is_struck x) ≡ 0
apart_zero x = ⊎_elim (λ (e : is_open x ≡ true). rw (e, open_not_struck x e) refl) (λ (e : is_open x ≡ false). rw e (and_false (is_struck x))) (true_or_false (is_open x))

-- where no byte passes one test before and another after, none is counted
pub none_counted : (f g : ℕ → Bool) (before after : List ℕ) → ((j : ℕ) → T (f (get_or before j 0)) → T (g (get_or after j 0)) → ⊥)
    → slot_count (λ c s. f (cause_of before c s) && g (cause_of after c s)) ≡ 0
none_counted f g before after none =
    count_none slots_length (λ i. f (cause_of before (i / 32) (i % 32)) && g (cause_of after (i / 32) (i % 32)))
    (λ i l.
    not→ (f (cause_of before (i / 32) (i % 32)) && g (cause_of after (i / 32) (i % 32)))
    (λ t.
    let b = and→ (f (cause_of before (i / 32) (i % 32))) (g (cause_of after (i / 32) (i % 32))) t in
    none (32 * (i / 32) + i % 32) b.0 b.1))

-- what is lost is what comes back when the change is undone
and_swap : (a b : Bool) → bit (a && b) ≡ bit (b && a)
and_swap true true = refl
and_swap true false = refl
and_swap false true = refl
and_swap false false = refl

lost_swap : (f g : ℕ → Bool) (xs ys : List ℕ) → lost f g xs ys ≡ lost g f ys xs
lost_swap f g [] [] = refl
lost_swap f g [] (y ∷ ys) = refl
lost_swap f g (x ∷ xs) [] = refl
lost_swap f g (x ∷ xs) (y ∷ ys) = omega (arith, lost_swap f g xs ys, and_swap (f x) (g y))

-- WHERE SLOTS ONLY GO FROM OPEN TO STRUCK none reopens
pub none_reopened : (before after : List ℕ) → length before ≡ slots_length → length after ≡ slots_length → OnlyLost 0 is_open is_struck before after → reopened_between before after ≡ 0
none_reopened before after eb ea o =
    sym (lost_reopened before after eb ea) ∙ lost_swap is_struck is_open before after ∙ lost_back 0 is_open is_struck open_not_struck before after o

-- WHAT A RELAXATION REOPENS, of one byte: where it is visited it is open after or was struck again, and elsewhere neither
reopen_one : (x o y : ℕ) (v : Bool) → (v ≡ true → x < 64) → (v ≡ true → o ≡ 255) → ((v ≡ true → ⊥) → (o ≡ x) ⊎ Neither o) → (x ≡ 255 → y < 64 → ⊥)
    → SameOrLost is_open is_struck o y → bit (is_struck x && is_open y) + bit (is_open o && is_struck y) ≡ bit (is_visited v)
reopen_one x o y true was is kept none (inl e) =
    let h = was refl in
    let d : y ≡ 255 = e ∙ is refl in
    rw (d, is refl, lt-ltb x 64 h) refl
reopen_one x o y true was is kept none (inr t) =
    let h = was refl in
    let l = ltb-true y 64 t.1 in
    rw (is refl, lt-ltb x 64 h, ne_eqb y 255 (λ d. omega arith), lt-ltb y 64 l) refl
reopen_one x o y false was is kept none change = go (kept (λ f. true_false f refl)) change
  where
    go : (o ≡ x) ⊎ Neither o → SameOrLost is_open is_struck o y → bit (is_struck x && is_open y) + bit (is_open o && is_struck y) ≡ 0
    go (inl e) (inl d) = let q = d ∙ e in rw (q, e) (apart_zero x)
    go (inl e) (inr t) =
        let a : x ≡ 255 = sym e ∙ eqb-true o 255 t.0 in
        absurd (none a (ltb-true y 64 t.1))
    go (inr n) (inl d) =
        let low = n.0 in
        let high = n.1 in
        rw (d, ne_eqb o 255 (λ e. omega arith)) (and_false (is_struck x))
    go (inr n) (inr t) = let high = n.1 in let q = eqb-true o 255 t.0 in absurd (omega arith)

-- the lists but for their first entries
reopen_rest : {x o y : ℕ} {v : Bool} {xs os ys : List ℕ} {vs : List Bool} → Reopening (x ∷ xs) (o ∷ os) (y ∷ ys) (v ∷ vs) → Reopening xs os ys vs
reopen_rest r =
    let a = r.left_size in
    let b = r.again.len in
    let c = r.visited_size in
    record {
      left_size = omega arith;
      visited_size = omega arith;
      was_struck = λ j f. r.was_struck (suc j) f;
      are_open = λ j f. r.are_open (suc j) f;
      kept = λ j n. r.kept (suc j) n;
      again = record { len = omega arith; each = λ j. r.again.each (suc j) };
      none_struck = λ j e. r.none_struck (suc j) e;
    }

reopening : (xs os ys : List ℕ) (vs : List Bool) → Reopening xs os ys vs → lost is_struck is_open xs ys + lost is_open is_struck os ys ≡ count is_visited vs
reopening [] [] [] [] r = refl
reopening [] [] [] (v ∷ vs) r = let c = r.visited_size in absurd (omega arith)
reopening [] [] (y ∷ ys) vs r = let b = r.again.len in absurd (omega arith)
reopening [] (o ∷ os) ys vs r = let a = r.left_size in absurd (omega arith)
reopening (x ∷ xs) [] ys vs r = let a = r.left_size in absurd (omega arith)
reopening (x ∷ xs) (o ∷ os) [] vs r = let b = r.again.len in absurd (omega arith)
reopening (x ∷ xs) (o ∷ os) (y ∷ ys) [] r = let c = r.visited_size in absurd (omega arith)
reopening (x ∷ xs) (o ∷ os) (y ∷ ys) (v ∷ vs) r =
    omega (
      arith,
      reopening xs os ys vs (reopen_rest r),
      reopen_one x o y v (r.was_struck 0) (r.are_open 0) (r.kept 0) (r.none_struck 0) (r.again.each 0),
    )

less : (reopened back struck visited again touched : ℕ) → back ≡ reopened → back + struck ≡ visited → again ≡ struck → touched ≡ visited → reopened ≡ touched - again
less reopened back struck visited again touched a b c d = omega arith

-- R IS T LESS WHAT IS STRUCK AGAIN
pub reopened_count : (slots left after : List ℕ) (visited : List Bool) (again touched : ℕ) → length slots ≡ slots_length → Reopening slots left after visited
    → again ≡ lost is_open is_struck left after → touched ≡ count is_visited visited → reopened_between slots after ≡ touched - again
reopened_count slots left after visited again touched size r e t =
    less (reopened_between slots after) (lost is_struck is_open slots after) (lost is_open is_struck left after) (count is_visited visited) again touched
    (lost_reopened slots after size (r.again.len ∙ r.left_size ∙ size)) (reopening slots left after visited r) e t

-- AND T IS THE NUMBER OF SLOTS THAT THE TEST PASSES
along_flags : (l : List Bool) → count is_visited l ≡ count_below (length l) (λ i. get_or l i false)
along_flags [] = refl
along_flags (x ∷ xs) = omega (arith, along_flags xs, count_first (length xs) (λ i. get_or (x ∷ xs) i false))

pub visited_count : (visited : List Bool) → length visited ≡ slots_length → count is_visited visited ≡ slot_count (visited_test visited)
visited_count visited size =
    along_flags visited
    ∙ ap (λ (n : ℕ). count_below n (λ i. get_or visited i false)) size
    ∙ count_same slots_length (λ i. get_or visited i false) (λ i. visited_test visited (i / 32) (i % 32))
    (λ i h. let at : 32 * (i / 32) + i % 32 ≡ i = omega arith in rw (lt-ltb (i % 32) 32 (omega arith), at) refl)
