-- A revision and the enqueuing after it are a step, and a step makes the measure fall. Assumes nothing.
use Rattle.std.specs.Prelude.{◌≡◌, List, true, false, ℕ, ◌≤◌, ◌<◌, length, get_or, set, replicate}
use Rattle.std.proofs.Common.{sym, ap, ◌∙◌, ⊎_elim, arith, length-set, ext_get_or, get_or-set_same}
use Rattle.std.proofs.lemmas.List.{length-replicate}
use Rattle.tables.specs.Assign.{Any, Below}
use Rattle.tables.specs.Count.{bit, count}
use Rattle.tables.specs.Masks.{flags_of}
use Rattle.layout.specs.Places.{call_of, columns_of, rows_of}
use Rattle.masks.specs.declared.columns.Columns.{Columns}
use Rattle.masks.specs.Rules.{RulesTo, Enqueues}
use Rattle.filter_propagate.specs.Rules.{RuleBytes, Progress, reached}
use Rattle.filter_support.specs.Walk.{StruckSets, WalkedColumns}
use Rattle.filter_support.specs.Strikes.{NotIn, StruckOn, ColumnsStruck}
use Rattle.filter_propagate.specs.Queue.{Enqueued, IsFlagged, only_rule}
use Rattle.filter_propagate.specs.Step.{Revision, Stepped, is_pending, remaining}
use Rattle.tables.specs.Laws.Count.{count_le, count_set}
use Rattle.tables.specs.Laws.Assign.{assign_keep, assign_same}
use Rattle.tables.specs.Laws.Facts.{eq_or_ne}
use Rattle.masks.specs.Laws.Rules.{enqueued}
use Rattle.filter_propagate.specs.Laws.Queue.{only_cleared, none_cleared}
use Rattle.filter_support.specs.Laws.Walk.{walk_kills, unsupported, not_found}
use Rattle.filter_support.specs.Laws.Strikes.{strikes_same, strikes_zero}

-- the struck slots, the walk over the rows by them, then the strikes by what it found: the slots that are not found are those without a support
pub revision_from : (R : RuleBytes) (p : ℕ) {r calls n m : ℕ} (killers killed slots struck : List ℕ) (dead found : Columns) → n ≡ columns_of R.arity p → m ≡ rows_of R.lengths p
    → StruckSets slots R.scope p n dead → WalkedColumns R.rows dead p n m killers killed found → ColumnsStruck (NotIn found) R.scope p n r calls slots struck
    → Revision R p r calls killers killed slots struck
revision_from R p {n = n} {m = m} killers killed slots struck dead found en em known walked w =
    let few : n ≤ 4 = omega arith in
    let e : rows_of R.lengths p ≡ m = sym em in
    let d : columns_of R.arity p ≡ n = sym en in
    record {
      revised = record {
        kills = rw (d, e) (walk_kills R.rows slots R.scope p n few dead known walked.kills);
        strikes =
            rw (d, e)
            (strikes_same _ _
            (λ j (k, lk, (s, ls, (e, x))). (k, lk, (s, ls, (e, not_found walked k s lk x))))
            (λ j (k, lk, (s, ls, (e, x))). (k, lk, (s, ls, (e, unsupported walked k s lk x))))
            w.strikes);
      };
      calls_struck = w.calls_struck;
    }

-- where nothing was struck no rule becomes pending
none_enqueued : (arity scope slots : List ℕ) (p : ℕ) (j : ℕ) → Below (Enqueued (StruckOn slots slots) arity scope p) 64 j → ⊥
none_enqueued arity scope slots p j (q, lq, (e, ne, (k, lk, (s, ls, o, n)))) = n o

-- a revision is a step: with the rules on the calls where a slot was struck enqueued, or where none was struck
module _ (R : RuleBytes) (p : ℕ) {r calls : ℕ} (x : Progress) (killed struck : List ℕ) (lp : p < 64) (was : IsFlagged x.pending p)
    (v : Revision R p r calls x.killers killed x.slots struck) where
  pub step_enqueued : {pending after : ℕ} {on : List ℕ} → set x.pending p false ≡ set (flags_of 64 pending) p false → RulesTo R.arity R.scope 64 on
      → Enqueues on calls p pending after → Stepped R p r x (reached killed struck (flags_of 64 after))
  step_enqueued same known q =
      record {
        rule = lp;
        was = was;
        revised = v.revised;
        queue =
            rw same
            (assign_same false true Any _ _
            (λ j (q, lq, (e, ne, (k, lk, o))). (q, lq, (e, ne, (k, lk, v.calls_struck.has (call_of R.scope q k) (omega arith) o))))
            (λ j (q, lq, (e, ne, (k, lk, h))). (q, lq, (e, ne, (k, lk, (v.calls_struck.only (call_of R.scope q k) h).1))))
            (enqueued known lp q));
      }

  pub step_quiet : r ≡ 0 → Stepped R p r x (reached killed struck (set x.pending p false))
  step_quiet e =
      let same : struck ≡ x.slots = strikes_zero lp v.revised.strikes e in
      record {
        rule = lp;
        was = was;
        revised = v.revised;
        queue = assign_keep false true Any _ _ (λ j q f. absurd (none_enqueued R.arity R.scope x.slots p j (rw same at q)));
      }

-- the first step, where only p is pending
module _ (R : RuleBytes) (p : ℕ) {r calls : ℕ} (killers killed slots struck : List ℕ) (lp : p < 64) (v : Revision R p r calls killers killed slots struck) where
  flagged : IsFlagged (only_rule p) p
  flagged = get_or-set_same (replicate 64 false) p true false (omega (arith, length-replicate 64 false))

  pub first_enqueued : {after : ℕ} {on : List ℕ} → RulesTo R.arity R.scope 64 on → Enqueues on calls p 0 after
      → Stepped R p r (reached killers slots (only_rule p)) (reached killed struck (flags_of 64 after))
  first_enqueued known q = step_enqueued R p (reached killers slots (only_rule p)) killed struck lp flagged v (only_cleared 64 p) known q

  pub first_quiet : r ≡ 0 → Stepped R p r (reached killers slots (only_rule p)) (reached killed struck (flags_of 64 0))
  first_quiet e = rw (only_cleared 64 p ∙ none_cleared 64 p lp) at (step_quiet R p (reached killers slots (only_rule p)) killed struck lp flagged v e)

-- THE MEASURE FALLS
module _ (R : RuleBytes) (p r : ℕ) (x y : Progress) (st : Stepped R p r x y) (size : length x.pending ≡ 64) where
  -- where nothing was struck, only p's flag changed
  queue_kept : r ≡ 0 → y.pending ≡ set x.pending p false
  queue_kept e =
      let same : y.slots ≡ x.slots = strikes_zero st.rule st.revised.strikes e in
      ext_get_or false y.pending (set x.pending p false) st.queue.len
      (λ j lj.
      ⊎_elim (λ h. h) (λ t. absurd (none_enqueued R.arity R.scope x.slots p j (rw same at t.2))) (st.queue.each j))

  pub step_less : remaining y < remaining x
  step_less =
      let d = st.revised.strikes.drop in
      let l = st.queue.len ∙ length-set x.pending p false in
      let was : bit (is_pending (get_or x.pending p false)) ≡ 1 = ap bit st.was in
      let lp = st.rule in
      ⊎_elim
      (λ (e : r ≡ 0).
      let f = ap (count is_pending) (queue_kept e) in
      omega (arith, count_set is_pending false false x.pending p (omega arith)))
      (λ (ne : r ≡ 0 → ⊥). let g : 0 < r = omega arith in omega (arith, count_le is_pending y.pending))
      (eq_or_ne r 0)
