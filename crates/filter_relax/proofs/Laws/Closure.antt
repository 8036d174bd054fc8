-- The closure scans pending rules until none is left: what is visited is then exactly what is touched. Assumes nothing.
use Rattle.std.specs.Prelude.{◌≡◌, refl, List, ◌⊎◌, Bool, true, false, not, ℕ, ◌/◌, ◌%◌, ◌<◌, length, get_or, set}
use Rattle.std.proofs.Common.{ap, ◌∙◌, inl, inr, ⊎_elim, arith, get_or-set_other, ext_get_or}
use Rattle.std.specs.Int.Bits.{bit_or}
use Rattle.tables.specs.Assign.{Flagged, Any, Below}
use Rattle.tables.specs.Count.{bit, count}
use Rattle.tables.specs.Masks.{Has, flags_of, all_flags}
use Rattle.tables.specs.Laws.Assign.{assign_stays}
use Rattle.tables.specs.Laws.Count.{count_le, count_set}
use Rattle.tables.specs.Laws.Facts.{true_false, true_or_false, eq_or_ne, lt_or_le}
use Rattle.tables.specs.Laws.Flags.{flags_length, flag_set, flag_clear, flag_has, all_length}
use Rattle.tables.specs.Laws.Lost.{lost_count, only_same}
use Rattle.tables.specs.Laws.Masks.{bit_zero, or_left, or_right, or_either}
use Rattle.masks.specs.Rules.{OnCalls, RulesTo, RulesOnAny, Enqueues}
use Rattle.masks.specs.Laws.Rules.{enqueued, enqueued_first}
use Rattle.filter_propagate.specs.Rules.{RuleBytes}
use Rattle.filter_propagate.specs.Queue.{IsFlagged, Idle}
use Rattle.filter_propagate.specs.Step.{is_pending}
use Rattle.layout.specs.Places.{columns_of, row_cell, slot_place}
use Rattle.layout.specs.Sizes.{slots_length}
use Rattle.filter_relax.specs.Reach.{Reach, seed, joins}
use Rattle.filter_relax.specs.Touched.{RuleJustifies, Touched, NoOwnKill, HasVisited, Covers, CallsVisited}
use Rattle.filter_relax.specs.Spread.{is_visited, Spread}
use Rattle.filter_relax.specs.Scan.{Scans}
use Rattle.filter_relax.specs.Closure.{Traversal, traversal, unsettled, OnCallOf, Tables, Expanded, Settled, Closed}
use Rattle.filter_relax.proofs.Laws.Reach.{reach_join, reach_in}
use Rattle.filter_relax.proofs.Laws.Spread.{visited_length, flag_in, place_of, unvisited_not, spread_stays}

-- where no flag is to be set the table stays
flagged_nothing : {Q : ℕ → Type 0} {old new : List Bool} → ((j : ℕ) → Q j → ⊥) → Flagged Q old new → new ≡ old
flagged_nothing {old = old} {new = new} none f =
    ext_get_or false new old f.len (λ j l. ⊎_elim (λ e. e) (λ t. absurd (none j t.2)) (f.each j))

-- no call has a new slot where nothing changed
spread_same : {old new : List Bool} {calls : ℕ} → Spread old new calls → new ≡ old → (c : ℕ) → Has calls c → ⊥
spread_same x same c h = let n = (x.calls_new.only c h).1 in true_false n.3 (rw same n.2)

-- a slot that is visited was so before, or its call has a new one
was_or_new : {old new : List Bool} {calls : ℕ} → length new ≡ slots_length → Spread old new calls → (j : ℕ) → IsFlagged new j → IsFlagged old j ⊎ Has calls (j / 32)
was_or_new {old} {new} size x j o =
    let l = flag_in new j o in
    ⊎_elim
    (λ z. inl z)
    (λ z. inr (x.calls_new.has (j / 32) (omega arith) (j % 32, omega arith, rw (place_of j) z, rw (place_of j) o)))
    (true_or_false (get_or old j false))

-- ONE STEP: what the scan of rule q and the rules that it makes pending leave
module _ (R : RuleBytes) (killers slots : List ℕ) (q : ℕ) (visited after : List ℕ) (calls : ℕ) {on : List ℕ} {changed pending rules : ℕ} (table : RulesTo R.arity R.scope 64 on) (lq : q < 64)
    (was : Has pending q) (size : length visited ≡ 32) (s : Scans (RuleJustifies R killers slots q) (all_flags 32 visited) (all_flags 32 after) changed)
    (e : Enqueues on changed q pending rules) where
  abbrev x : Traversal
  x = traversal (all_flags 32 visited) (flags_of 32 calls) (flags_of 64 pending)

  abbrev y : Traversal
  y = traversal (all_flags 32 after) (flags_of 32 (bit_or calls changed)) (flags_of 64 rules)

  abbrev Joins : ℕ → ℕ → Type 0
  Joins p j = (j ≡ p) × (p ≡ q → ⊥) × OnCalls (Has changed) R.scope p (columns_of R.arity p)

  queue : Flagged (Below Joins 64) (set (flags_of 64 pending) q false) (flags_of 64 rules)
  queue = enqueued table lq e

  length_after : length (all_flags 32 after) ≡ slots_length
  length_after = s.spread.only.len ∙ visited_length visited size

  -- where no slot is new one rule less is pending
  fewer_pending : all_flags 32 after ≡ all_flags 32 visited → count is_pending (flags_of 64 rules) < count is_pending (flags_of 64 pending)
  fewer_pending same =
      let quiet = flagged_nothing (λ j t. spread_same s.spread same _ t.2.2.2) queue in
      let on : bit (is_pending (get_or (flags_of 64 pending) q false)) ≡ 1 = ap bit (flag_set 64 pending q lq was) in
      rw quiet (omega (arith, count_set is_pending false false (flags_of 64 pending) q (omega (arith, flags_length 64 pending))))

  less : unsettled y < unsettled x
  less =
      let n = lost_count false not is_visited unvisited_not (all_flags 32 visited) (all_flags 32 after) s.spread.only in
      ⊎_elim
      (λ (f : count not (all_flags 32 after) < count not (all_flags 32 visited)). omega (arith, count_le is_pending (flags_of 64 rules), flags_length 64 rules))
      (λ ge.
      let f : count not (all_flags 32 after) ≡ count not (all_flags 32 visited) = omega arith in
      omega (arith, fewer_pending (only_same false not is_visited unvisited_not (all_flags 32 visited) (all_flags 32 after) s.spread.only f)))
      (lt_or_le (count not (all_flags 32 after)) (count not (all_flags 32 visited)))

  fresh : (p j : ℕ) → p < 64 → (p ≡ q → ⊥) → IsFlagged (all_flags 32 after) j → OnCallOf R p j → IsFlagged (all_flags 32 visited) j ⊎ IsFlagged (flags_of 64 rules) p
  fresh p j lp ne o c =
      ⊎_elim
      (λ z. inl z)
      (λ (h : Has changed (j / 32)). inr (queue.written p (p, lp, (refl, ne, (c.0, c.1, rw c.2 h))) tt))
      (was_or_new length_after s.spread j o)

  calls_after : CallsVisited (flags_of 32 calls) (all_flags 32 visited) → CallsVisited (flags_of 32 (bit_or calls changed)) (all_flags 32 after)
  calls_after w = record { covers = covers; only = only }
    where
      covers : Covers (flags_of 32 (bit_or calls changed)) (all_flags 32 after)
      covers j o =
          let l = flag_in (all_flags 32 after) j o in
          let lc : j / 32 < 32 = omega (arith, length_after) in
          flag_set 32 (bit_or calls changed) (j / 32) lc
          (⊎_elim
          (λ z. or_left calls changed (j / 32) (flag_has 32 calls (j / 32) lc (w.covers j z)))
          (λ h. or_right calls changed (j / 32) h)
          (was_or_new length_after s.spread j o))

      only : (c : ℕ) → IsFlagged (flags_of 32 (bit_or calls changed)) c → HasVisited (all_flags 32 after) c
      only c o =
          let l = flag_in (flags_of 32 (bit_or calls changed)) c o in
          let lc : c < 32 = omega (arith, flags_length 32 (bit_or calls changed)) in
          ⊎_elim
          (λ h. let v = w.only c (flag_set 32 calls c lc h) in (v.0, v.1, spread_stays s.spread (slot_place c v.0) v.2))
          (λ h. let n = (s.spread.calls_new.only c h).1 in (n.0, n.1, n.3))
          (or_either calls changed c (flag_has 32 (bit_or calls changed) c lc o))

  pub expanded : Expanded R killers slots q x y
  expanded =
      record {
        rule = lq;
        less = less;
        sizes = record { visited = record { visited_size = length_after; flags_size = flags_length 32 (bit_or calls changed) }; pending_size = flags_length 64 rules };
        stays = spread_stays s.spread;
        full = s.full;
        from = s.from;
        others = λ p ne o. assign_stays false true Any _ _ _ p queue (get_or-set_other (flags_of 64 pending) q p false false ne ∙ o);
        fresh = fresh;
        calls = calls_after;
      }

module _ (R : RuleBytes) (killers slots : List ℕ) where
  -- a rule that justifies by slot i has a column on its call
  justifies_on : (p i j : ℕ) → RuleJustifies R killers slots p i j → OnCallOf R p i
  unfolding row_cell
  justifies_on p i j t = let x = t.by in let e = x.killer in (_, x.column, omega arith)

  module _ (q : ℕ) {x y : Traversal} (v : Expanded R killers slots q x y) where
    -- a rule that was scanned justifies nothing by its own newly visited slots, unless it killed its own row by its own strike
    own : NoOwnKill R killers slots → (i j : ℕ) → RuleJustifies R killers slots q i j → Reach (RuleJustifies R killers slots q) (IsFlagged x.visited) i → IsFlagged y.visited j
    own no_own i j t (seed s) = v.full i j t s
    own no_own i j t (joins r p) =
        let z = t.by in
        absurd (no_own q t.row v.rule t.inside z.column (rw z.killer at p.by.held.2.cause))

    -- another rule that is not pending afterwards was not pending before
    not_pending : (p : ℕ) → (p ≡ q → ⊥) → get_or y.pending p false ≡ false → get_or x.pending p false ≡ false
    not_pending p ne e = ⊎_elim (λ z. absurd (true_false (v.others p ne z) e)) (λ z. z) (true_or_false (get_or x.pending p false))

    settled_step : NoOwnKill R killers slots → Settled R killers slots x → Settled R killers slots y
    settled_step no_own settled p lp e i j t o =
        ⊎_elim
        (λ (h : p ≡ q). own no_own i j (rw h at t) (v.from i o))
        (λ ne.
        ⊎_elim
        (λ m. v.stays j (settled p lp (not_pending p ne e) i j t m))
        (λ z. absurd (true_false z e))
        (v.fresh p i lp ne o (justifies_on p i j t)))
        (eq_or_ne p q)

  -- the loop, from the visited of a seed: y is where it is
  pub record Closing (old : List Bool) (y : Traversal) : Type 0 where
    pub sizes : Tables y
    pub stays : (j : ℕ) → IsFlagged old j → IsFlagged y.visited j
    pub touched : (j : ℕ) → IsFlagged y.visited j → Touched R killers slots (IsFlagged old) j
    pub settled : NoOwnKill R killers slots → Settled R killers slots y
    pub calls : CallsVisited y.flags y.visited

  -- at first every rule on a call of a visited slot is pending
  pub closing_none : (visited : List ℕ) (calls : ℕ) {on : List ℕ} {rules : ℕ} → RulesTo R.arity R.scope 64 on → length visited ≡ 32 → CallsVisited (flags_of 32 calls) (all_flags 32 visited) → RulesOnAny on calls rules
      → Closing (all_flags 32 visited) (traversal (all_flags 32 visited) (flags_of 32 calls) (flags_of 64 rules))
  closing_none visited calls {rules = rules} table size w e =
      record {
        sizes = record { visited = record { visited_size = visited_length visited size; flags_size = flags_length 32 calls }; pending_size = flags_length 64 rules };
        stays = λ j o. o;
        touched = λ j o. seed o;
        settled = λ no_own p lp off i j t o.
            let c = justifies_on p i j t in
            let l = flag_in (all_flags 32 visited) i o in
            let h : Has calls (i / 32) = flag_has 32 calls (i / 32) (omega (arith, visited_length visited size)) (w.covers i o) in
            absurd (true_false (flag_set 64 rules p lp ((enqueued_first table e).0 p lp (c.0, c.1, rw c.2 h))) off);
        calls = w;
      }

  pub closing_more : {q : ℕ} {old : List Bool} {y z : Traversal} → Closing old y → Expanded R killers slots q y z → Closing old z
  closing_more {q} a v =
      record {
        sizes = v.sizes;
        stays = λ j o. v.stays j (a.stays j o);
        touched = λ j o. reach_join (λ i k p. record { rule = q; number = v.rule; by = p }) (λ k m. a.touched k m) (v.from j o);
        settled = λ no_own. settled_step q v no_own (a.settled no_own);
        calls = v.calls a.calls;
      }

-- the table of masks keeps its length
pub closing_size : {R : RuleBytes} {killers slots : List ℕ} {old : List Bool} (visited : List ℕ) {flags pending : List Bool} → Closing R killers slots old (traversal (all_flags 32 visited) flags pending)
    → length visited ≡ 32
closing_size visited a = omega (arith, a.sizes.visited.visited_size, all_length 32 visited)

-- where none is pending all is settled
pub closed : (R : RuleBytes) (killers slots : List ℕ) {old visited flags : List Bool} {pending : ℕ} → pending ≡ 0 → Closing R killers slots old (traversal visited flags (flags_of 64 pending))
    → Closed R killers slots old (traversal visited flags (flags_of 64 0))
closed R killers slots {visited = visited} none closing =
    let a = rw none at closing in
    record {
      sizes = a.sizes;
      touched = a.touched;
      all_touched = λ no_own j t.
          reach_in (IsFlagged visited) a.stays (λ i k p o. a.settled no_own p.rule p.number (idle p.rule p.number) i k p.by o) t;
      calls = a.calls;
      idle = idle;
    }
  where
    idle : Idle (flags_of 64 0)
    idle q l = flag_clear 64 0 q l (λ e. omega (arith, bit_zero q))
