-- From what the parts of a retraction ensure to what it does to the bytes. Assumes nothing.
use Rattle.std.specs.Prelude.{◌≡◌, refl, List, ℕ, ◌-◌, ◌<◌, Bool, replicate}
use Rattle.std.proofs.Common.{◌∙◌}
use Rattle.tables.specs.Masks.{flags_of, all_flags}
use Rattle.masks.specs.Rules.{RulesTo, RuleDropped, Without}
use Rattle.filter_propagate.specs.Rules.{RuleBytes, reached}
use Rattle.filter_propagate.specs.Queue.{IsFlagged}
use Rattle.filter_propagate.specs.Steps.{Propagated}
use Rattle.filter_relax.specs.Touched.{Seeded}
use Rattle.filter_relax.specs.Spread.{Adds}
use Rattle.filter_relax.specs.Seed.{Seeding}
use Rattle.filter_relax.specs.Relaxed.{Relaxed}
use Rattle.layout.specs.Bounds.{Sizes}
use Rattle.layout.specs.Places.{columns_of}
use Rattle.masks.specs.Laws.Rules.{flags_without, dropped_rules}
use Rattle.filter_relax.proofs.Laws.Seed.{seeding, seed_empty}
use Rattle.filter_relax.proofs.Laws.Relaxed.{relaxed_from}
use Rattle.filter_retract.specs.Done.{RuleCleared, CausedBy, StruckAgain, Quiet, Reworked}

-- visited among none, the slots whose cause is p are the seed of its retraction
module _ {p n calls : ℕ} (R : RuleBytes) {slots visited : List ℕ} (e : n ≡ columns_of R.arity p) (adds : Adds (Seeded slots R.scope p n) (replicate 32 0) visited 0 calls) where
  pub caused_seeding : Seeding (CausedBy p R slots) visited calls
  caused_seeding = seeding (rw e at adds)

  -- where no call has one there is none
  pub quiet : {R' : RuleBytes} {killers killers' : List ℕ} → calls ≡ 0 → RuleCleared p R R' killers killers' → Quiet p R R' killers killers' slots slots 0 0
  quiet z c =
      record {
        none = seed_empty caused_seeding z;
        cleared = c;
        slots_same = refl;
        none_reopened = refl;
        none_touched = refl;
      }

-- where the rule is cleared the lengths stay, and the table of the rules on each call without it is that of the rules
module _ {p : ℕ} {R R' : RuleBytes} {killers emptied : List ℕ} (c : RuleCleared p R R' killers emptied) where
  pub cleared_sizes : {slots : List ℕ} → Sizes R.rows killers slots → Sizes R'.rows emptied slots
  cleared_sizes s =
      record { rows_size = c.written.rows_size ∙ s.rows_size; killers_size = c.killers_empty.len ∙ s.killers_size; slots_size = s.slots_size }

  pub cleared_rules : {on on' : List ℕ} → p < 64 → RulesTo R.arity R.scope 64 on → RuleDropped p on on' → RulesTo R'.arity R'.scope 64 on'
  cleared_rules {on = on} {on' = on'} lp known d =
      dropped_rules R.arity R.scope R'.arity R'.scope on on' p lp known d c.written.arity
      (λ q ne lq. let same = c.written.other q ne in (same.arity, same.scope))

  -- and propagation follows, from the pending rules but p
  pub struck_again : {again pending left : ℕ} {killers' slots slots' : List ℕ} → p < 64 → Without p pending left
      → Propagated R' again (reached emptied slots (flags_of 64 left)) (reached killers' slots' (flags_of 64 0))
      → StruckAgain p again (flags_of 64 pending) R R' killers killers' slots slots'
  struck_again lp w d = record { emptied = emptied; cleared = c; flags = flags_of 64 0; propagated = rw (flags_without lp w) at d }

-- the reopening, the clearing and propagation
pub reworked : {p reopened touched again calls : ℕ} {R R' : RuleBytes} {killers killers' slots slots' seeded revived opened : List ℕ} {visited pending : List Bool}
    → Seeding (CausedBy p R slots) seeded calls → Relaxed R (IsFlagged (all_flags 32 seeded)) touched killers revived slots opened visited pending
    → StruckAgain p again pending R R' revived killers' opened slots' → reopened ≡ touched - again → Reworked p R R' killers killers' slots slots' reopened touched
reworked {again = again} {revived = revived} {opened} {visited} {pending} s x a e =
    record {
      revived = revived;
      opened = opened;
      visited = visited;
      pending = pending;
      relaxed = relaxed_from s x;
      emptied = a.emptied;
      cleared = a.cleared;
      again = again;
      flags = a.flags;
      propagated = a.propagated;
      difference = e;
    }
