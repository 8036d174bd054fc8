-- The closure, the reopening, the pending rules and the reviving are a relaxation. Assumes nothing.
use Rattle.std.specs.Prelude.{◌≡◌, List, ◌⊎◌, Bool, false, ℕ, ◌+◌, ◌*◌, ◌/◌, ◌<◌, get_or}
use Rattle.std.proofs.Common.{◌∙◌, inl, inr, arith}
use Rattle.tables.specs.Masks.{Has, flags_of, all_flags}
use Rattle.tables.specs.Laws.Facts.{true_false}
use Rattle.tables.specs.Laws.Flags.{flags_length, flag_set, flag_has}
use Rattle.masks.specs.Rules.{OnCalls, RulesTo, RulesOnAny}
use Rattle.masks.specs.Laws.Rules.{enqueued_first}
use Rattle.filter_propagate.specs.Rules.{RuleBytes}
use Rattle.filter_propagate.specs.Queue.{IsFlagged}
use Rattle.filter_propagate.specs.Stable.{StableBytes}
use Rattle.filter_propagate.specs.Laws.Stable.{stable_keep}
use Rattle.layout.specs.Bounds.{Sizes}
use Rattle.layout.specs.Places.{columns_of, slot_of, row_cell, call_of}
use Rattle.filter_relax.specs.Reach.{seed, joins}
use Rattle.filter_relax.specs.Touched.{Touched, CallsVisited}
use Rattle.filter_relax.specs.Seed.{Seeding}
use Rattle.filter_relax.specs.Closure.{traversal, Closed}
use Rattle.filter_relax.specs.Reopen.{Reopened}
use Rattle.filter_relax.specs.Revive.{Freed, RuleRevived, Blocks}
use Rattle.filter_relax.specs.Relaxed.{OnVisited, Relaxed}
use Rattle.filter_relax.proofs.Laws.Reach.{reach_join}

-- a rule with a row whose killer's slot is visited has a column on its call
pub freed_on : (R : RuleBytes) (visited : List Bool) (q w x : ℕ) → Freed R visited q w x → OnVisited R visited q
unfolding row_cell
freed_on R visited q w x f = let k = f.killer in (x, k.column, (slot_of R.rows q w x, omega arith, k.slot))

-- a rule has a column on a call of the mask exactly where it has one on the call of a visited slot
module _ (R : RuleBytes) {visited : List Bool} (calls : ℕ) (all : CallsVisited (flags_of 32 calls) visited) (q : ℕ) where
  on_mask : OnVisited R visited q → OnCalls (Has calls) R.scope q (columns_of R.arity q)
  on_mask x =
      let c = call_of R.scope q x.0 in
      let h = x.2 in
      let ls = h.1 in
      let at : (32 * c + h.0) / 32 ≡ c = omega arith in
      (x.0, x.1, flag_has 32 calls c (omega arith) (rw at at (all.covers (32 * c + h.0) h.2)))

  mask_on : OnCalls (Has calls) R.scope q (columns_of R.arity q) → OnVisited R visited q
  mask_on x = let c = call_of R.scope q x.0 in (x.0, x.1, all.only c (flag_set 32 calls c (omega arith) x.2))

-- the closure, then the reopening, the rules on reopened calls, and the reviving
pub relaxed : (R : RuleBytes) {t calls rules : ℕ} (killers slots : List ℕ) {revived reopened on : List ℕ} {old visited idle : List Bool}
    → Closed R killers slots old (traversal visited (flags_of 32 calls) idle)
    → Reopened t visited slots reopened
    → RulesTo R.arity R.scope 64 on
    → RulesOnAny on calls rules
    → Blocks (RuleRevived R visited (flags_of 64 rules)) 64 killers revived
    → Relaxed R (IsFlagged old) t killers revived slots reopened visited (flags_of 64 rules)
relaxed R {calls = calls} {rules = rules} killers slots {visited = visited} c o table any v =
    let queue = enqueued_first table any in
    let on : (q : ℕ) → q < 64 → OnVisited R visited q → IsFlagged (flags_of 64 rules) q =
    λ q lq x. flag_set 64 rules q lq (queue.0 q lq (on_mask R calls c.calls q x)) in
    record {
      visited_size = c.sizes.visited.visited_size;
      touched = c.touched;
      all_touched = c.all_touched;
      slots_size = o.size;
      slot_opened = o.opened;
      slot_kept = o.kept;
      total = o.total;
      killers_size = v.len;
      row_revived = λ q w lq lw f. (v.inside q w lq lw).written (record { flag = on q lq (freed_on R visited q w _ f); freed = f });
      row_kept = λ q w lq lw out. (v.inside q w lq lw).kept (λ z. out z.freed);
      pending_size = flags_length 64 rules;
      enqueued = on;
      only_enqueued = λ q lq f. mask_on R calls c.calls q (queue.1 q (flag_has 64 rules q lq f)).1;
    }

-- a touched slot is of the seed, or has a cause
pub touched_struck : (R : RuleBytes) (killers slots : List ℕ) {Seed : ℕ → Type 0} {j : ℕ} → Touched R killers slots Seed j → Seed j ⊎ (get_or slots j 0 < 64)
touched_struck R killers slots (seed s) = inl s
touched_struck R killers slots (joins t p) = let l = p.number in let e = p.by.by.held.2.cause in inr (omega arith)

module _ {R : RuleBytes} {t : ℕ} {killers revived slots reopened : List ℕ} {visited pending : List Bool} where
  -- from the visited of a seed it is one from the seed
  pub relaxed_from : {Seed : ℕ → Type 0} {seeded : List ℕ} {calls : ℕ} → Seeding Seed seeded calls
      → Relaxed R (IsFlagged (all_flags 32 seeded)) t killers revived slots reopened visited pending → Relaxed R Seed t killers revived slots reopened visited pending
  relaxed_from s x =
      record {
        visited_size = x.visited_size;
        touched = λ j o. reach_join (λ i k p. p) (λ k v. seed (s.only k v)) (x.touched j o);
        all_touched = λ no_own j u. x.all_touched no_own j (reach_join (λ i k p. p) (λ k v. seed (s.has k v)) u);
        slots_size = x.slots_size;
        slot_opened = x.slot_opened;
        slot_kept = x.slot_kept;
        total = x.total;
        killers_size = x.killers_size;
        row_revived = x.row_revived;
        row_kept = x.row_kept;
        pending_size = x.pending_size;
        enqueued = x.enqueued;
        only_enqueued = x.only_enqueued;
      }

  -- A RULE THAT IS NOT PENDING is stable if it was
  module _ {Seed : ℕ → Type 0} (x : Relaxed R Seed t killers revived slots reopened visited pending) where
    pub stays_stable : (q : ℕ) → q < 64 → get_or pending q false ≡ false → StableBytes R killers slots q → StableBytes R revived reopened q
    stays_stable q lq off =
        stable_keep R q killers revived slots reopened
        (λ k s lk ls. x.slot_kept (32 * call_of R.scope q k + s) (λ o. true_false (x.enqueued q lq (k, lk, (s, ls, o))) off))
        (λ w lw. x.row_kept q w lq (omega arith) (λ f. true_false (x.enqueued q lq (freed_on R visited q w _ f)) off))

-- a relaxation leaves the buffers' lengths as they were
pub relaxed_sizes : {t : ℕ} {R : RuleBytes} {Seed : ℕ → Type 0} {killers revived slots opened : List ℕ} {visited pending : List Bool}
    → Relaxed R Seed t killers revived slots opened visited pending → Sizes R.rows killers slots → Sizes R.rows revived opened
relaxed_sizes x s = record { rows_size = s.rows_size; killers_size = x.killers_size ∙ s.killers_size; slots_size = x.slots_size ∙ s.slots_size }
