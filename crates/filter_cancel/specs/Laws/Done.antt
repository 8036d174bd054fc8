-- From what the parts of a cancellation ensure to what it does to the bytes. Assumes nothing.
use Rattle.std.specs.Prelude.{◌≡◌, refl, List, Bool, ℕ, ◌-◌, ◌/◌, ◌<◌, length, get_or, set, replicate}
use Rattle.std.proofs.Common.{◌∙◌, arith, length-set, get_or-set_same, get_or-set_other}
use Rattle.tables.specs.Count.{count}
use Rattle.tables.specs.Masks.{IsMask, flags_of, all_flags}
use Rattle.tables.specs.Laws.Flags.{all_length, all_set, all_place, count_all}
use Rattle.tables.specs.Laws.Masks.{has_some}
use Rattle.filter_propagate.specs.Rules.{RuleBytes, reached}
use Rattle.filter_propagate.specs.Queue.{IsFlagged}
use Rattle.filter_propagate.specs.Steps.{Propagated}
use Rattle.filter_relax.specs.Spread.{is_visited, CallMask, Adds}
use Rattle.filter_relax.specs.Seed.{Seeding}
use Rattle.filter_relax.specs.Relaxed.{Relaxed}
use Rattle.filter_relax.proofs.Laws.Seed.{adds_masked, seeding, seed_empty}
use Rattle.filter_relax.proofs.Laws.Reopen.{zero_none}
use Rattle.filter_relax.proofs.Laws.Relaxed.{relaxed_from}
use Rattle.layout.specs.Bounds.{Sizes}
use Rattle.layout.specs.Places.{cause_of}
use Rattle.filter_cancel.specs.Done.{OwnStruck, Withdrawn, Beside, StruckWithout, OthersCounted, CancelQuiet, CancelReworked}

-- visited among none, the mask of the call's slots below 64 is the seed of its cancellation
module _ (slots : List ℕ) (c : ℕ) {mask calls : ℕ} {visited : List ℕ} (m : IsMask (λ s. cause_of slots c s < 64) 32 mask) (adds : Adds (CallMask c mask) (replicate 32 0) visited 0 calls) where
  pub struck_seeding : Seeding (OwnStruck slots c) visited calls
  struck_seeding = seeding (adds_masked c m (λ s l h. (s, l, refl, h)) (λ j x. (x.0, x.1, x.2, rw x.2 at x.3)) adds)

  -- where no call has one there is none
  pub quiet : {n : ℕ} {killers slots' : List ℕ} → calls ≡ 0 → Withdrawn c n slots slots' → CancelQuiet c n killers killers slots slots' 0 0
  quiet z w =
      record {
        none = seed_empty struck_seeding z;
        withdrawn = w;
        killers_same = refl;
        none_reopened = refl;
        none_touched = refl;
      }

-- THE OTHER CALLS: the flags beside those of call c are the table's with an empty mask for c
module _ (masks : List ℕ) (c : ℕ) (inside : c < length masks) where
  beside : Beside c (all_flags 32 masks) (all_flags 32 (set masks c 0))
  beside = record { size = omega (arith, all_length 32 (set masks c 0), all_length 32 masks, length-set masks c 0); has = has; only = only }
    where
      has : (j : ℕ) → IsFlagged (all_flags 32 masks) j → (j / 32 ≡ c → ⊥) → IsFlagged (all_flags 32 (set masks c 0)) j
      has j o apart =
          let p = all_place 32 masks j o in
          let ls = p.3 in
          let is = p.4 in
          let at : j / 32 ≡ p.0 = omega arith in
          rw is (all_set 32 (set masks c 0) p.0 p.1 p.3 (rw (get_or-set_other masks c p.0 0 0 (λ e. apart (at ∙ e))) p.5))

      only : (j : ℕ) → IsFlagged (all_flags 32 (set masks c 0)) j → IsFlagged (all_flags 32 masks) j × (j / 32 ≡ c → ⊥)
      only j o =
          let p = all_place 32 (set masks c 0) j o in
          let ls = p.3 in
          let is = p.4 in
          let at : j / 32 ≡ p.0 = omega arith in
          let apart : p.0 ≡ c → ⊥ = λ e. has_some (get_or (set masks c 0) p.0 0) p.1 p.5 (rw e (get_or-set_same masks c 0 0 inside)) in
          (rw is (all_set 32 masks p.0 p.1 p.3 (rw (get_or-set_other masks c p.0 0 0 apart) at p.5)), λ e. apart (omega arith))

  count_beside : count is_visited (all_flags 32 masks) - count is_visited (flags_of 32 (get_or masks c 0)) ≡ count is_visited (all_flags 32 (set masks c 0))
  count_beside = omega (arith, count_all is_visited 32 0 masks c inside, zero_none)

-- a withdrawal leaves the buffers' lengths as they were
pub withdrawn_sizes : (c : ℕ) {n : ℕ} {rows killers slots slots' : List ℕ} → Withdrawn c n slots slots' → Sizes rows killers slots → Sizes rows killers slots'
withdrawn_sizes c w s = record { rows_size = s.rows_size; killers_size = s.killers_size; slots_size = w.len ∙ s.slots_size }

-- and propagation follows it
pub struck_without : {c n again : ℕ} {pending flags : List Bool} {R : RuleBytes} {killers killers' slots slots' left : List ℕ} → Withdrawn c n slots left
    → Propagated R again (reached killers left pending) (reached killers' slots' flags) → StruckWithout c n again pending R killers killers' slots slots'
struck_without {flags = flags} {left = left} w p = record { left = left; withdrawn = w; flags = flags; propagated = p }

-- the reopening, the withdrawal and propagation. Of the touched slots those of call c are not counted
pub reworked : {masks : List ℕ} {c n calls all again touched reopened : ℕ} {R : RuleBytes} {killers killers' slots slots' seeded revived opened : List ℕ} {pending : List Bool}
    → c < 32 → Seeding (OwnStruck slots c) seeded calls → Relaxed R (IsFlagged (all_flags 32 seeded)) all killers revived slots opened (all_flags 32 masks) pending
    → StruckWithout c n again pending R revived killers' opened slots' → OthersCounted masks c all again reopened touched
    → CancelReworked c n R killers killers' slots slots' reopened touched
reworked {masks} {c} {all = all} {again = again} {revived = revived} {opened} {pending} lc s x a o =
    let inside : c < length masks = omega (arith, x.visited_size, all_length 32 masks) in
    record {
      revived = revived;
      opened = opened;
      visited = all_flags 32 masks;
      pending = pending;
      all = all;
      relaxed = relaxed_from s x;
      left = a.left;
      withdrawn = a.withdrawn;
      again = again;
      flags = a.flags;
      propagated = a.propagated;
      others = all_flags 32 (set masks c 0);
      beside = beside masks c inside;
      total = omega (arith, o.less_own, x.total, count_beside masks c inside);
      difference = o.less_again;
    }
