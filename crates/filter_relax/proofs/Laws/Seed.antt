-- What is visited among none is the seed of a relaxation. Assumes nothing.
use Rattle.std.specs.Prelude.{◌≡◌, refl, List, ℕ, ◌/◌, ◌%◌, ◌<◌, length, replicate}
use Rattle.std.proofs.Common.{sym, ◌∙◌, ⊎_elim, arith}
use Rattle.std.proofs.lemmas.List.{length-replicate}
use Rattle.tables.specs.Masks.{Has, IsMask, flags_of, all_flags}
use Rattle.tables.specs.Laws.Flags.{flags_length, flag_set, flag_has, flag_below}
use Rattle.tables.specs.Laws.Masks.{bit_zero, has_some}
use Rattle.filter_propagate.specs.Queue.{IsFlagged}
use Rattle.layout.specs.Places.{cause_of, slot_place}
use Rattle.filter_relax.specs.Touched.{CallCaused, HasVisited, Covers}
use Rattle.filter_relax.specs.Spread.{CallMask, Adds}
use Rattle.filter_relax.specs.Seed.{Seeding}
use Rattle.filter_relax.proofs.Laws.Spread.{adds_same, adds_size, visited_length, flag_in, place_of, none_visited}

-- the mask of the slots of call c with P is that of Q, where Q has those slots and no others
pub adds_masked : (c : ℕ) {P Q : ℕ → Type 0} {mask : ℕ} {old new : List ℕ} {before after : ℕ} → IsMask P 32 mask → ((s : ℕ) → s < 32 → P s → Q (slot_place c s))
    → ((j : ℕ) → Q j → (s : ℕ) × (s < 32) × (j ≡ slot_place c s) × P s) → Adds (CallMask c mask) old new before after → Adds Q old new before after
adds_masked c {P} {Q} {mask} m to from a = adds_same (CallMask c mask) Q back forth a
  where
    back : (j : ℕ) → Q j → CallMask c mask j
    back j q = let x = from j q in (x.0, x.1, x.2, m.has x.0 x.1 x.3)

    forth : (j : ℕ) → CallMask c mask j → Q j
    forth j x = let p = m.only x.0 x.3 in rw x.2 (to x.0 p.0 p.1)

-- that of the slots with one cause
pub adds_caused : (slots : List ℕ) (p c : ℕ) {mask : ℕ} {old new : List ℕ} {before after : ℕ} → IsMask (λ s. cause_of slots c s ≡ p) 32 mask → Adds (CallMask c mask) old new before after
    → Adds (CallCaused slots p c) old new before after
adds_caused slots p c m a =
    adds_masked c m (λ s l e. (s, l, record { is = refl; cause = e })) (λ j x. (x.0, x.1, x.2.is, rw x.2.is at x.2.cause)) a

-- VISITED AMONG NONE are exactly those of the seed, and the calls of the mask are exactly theirs
module _ {Seed : ℕ → Type 0} {visited : List ℕ} {calls : ℕ} (a : Adds Seed (replicate 32 0) visited 0 calls) where
  size : length visited ≡ 32
  size = adds_size a ∙ length-replicate {A = ℕ} 32 0

  has : (j : ℕ) → Seed j → IsFlagged (all_flags 32 visited) j
  has j q = a.visited.written j q tt

  only : (j : ℕ) → IsFlagged (all_flags 32 visited) j → Seed j
  only j o = ⊎_elim (λ e. absurd (none_visited j (sym e ∙ o))) (λ t. t.2) (a.visited.each j)

  covers : Covers (flags_of 32 calls) (all_flags 32 visited)
  covers j o =
      let l = flag_in (all_flags 32 visited) j o in
      let lc : j / 32 < 32 = omega (arith, visited_length visited size) in
      flag_set 32 calls (j / 32) lc (a.joins (j / 32) (j % 32, omega arith, rw (place_of j) (only j o)))

  on_calls : (c : ℕ) → IsFlagged (flags_of 32 calls) c → HasVisited (all_flags 32 visited) c
  on_calls c o =
      let l = flag_in (flags_of 32 calls) c o in
      ⊎_elim
      (λ (z : Has 0 c). absurd (omega (arith, bit_zero c)))
      (λ x. (x.0, x.1, has (slot_place c x.0) x.2))
      (a.only c (flag_has 32 calls c (omega (arith, flags_length 32 calls)) o))

  pub seeding : Seeding Seed visited calls
  seeding = record { size = size; has = has; only = only; calls_visited = record { covers = covers; only = on_calls } }

-- WHERE THE MASK OF CALLS IS 0 the seed is empty
pub seed_empty : {Seed : ℕ → Type 0} {visited : List ℕ} {calls : ℕ} → Seeding Seed visited calls → calls ≡ 0 → (j : ℕ) → Seed j → ⊥
seed_empty {calls = calls} s z j q =
    let f = s.calls_visited.covers j (s.has j q) in has_some calls (j / 32) (flag_has 32 calls (j / 32) (flag_below 32 calls (j / 32) f) f) z
