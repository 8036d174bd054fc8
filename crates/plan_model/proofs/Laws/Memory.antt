-- ON A STATE THAT IS A LEDGER'S the rules and the slots of calls, read off the memory, are the board's. Assumes nothing.
use Rattle.std.specs.Prelude.{◌≡◌, ◌||◌, List, length, get_or}
use Rattle.std.proofs.Math.Path.{refl, ap}
use Rattle.std.proofs.Common.{◌∙◌, arith}
use Rattle.std.proofs.Math.Bool.{Bool, not}
use Rattle.std.proofs.Math.Option.{Option, none, some}
use Prim.Native.Nat.{ℕ, ◌<◌}
use Rattle.std.proofs.Math.Dec.{eqb}
use Rattle.layout.specs.Memory.{State}
use Rattle.model.specs.Board.{Rule, slots_on, call_at}
use Rattle.model.specs.Tests.{some?, every?}
use Rattle.model.specs.Ledger.{Ledger, LedgerShape}
use Rattle.model.specs.Representation.{rule_or, rule_at, Represents}
use Rattle.model.proofs.Laws.Search.{some_same, every_same, first_same}
use Rattle.model.proofs.Laws.Cancelled.{cancelled_held}
use Rattle.model.proofs.Laws.Questions.{slots_held_lem, columns_held, rows_held}
use Rattle.plan_model.specs.Plans.{RulesRead, rules_of, rules_in, slot_in, fits?, fitted?, binds?, breaks?, lowest_broken, slots_on_in}

-- ONE RULE READ ALIKE, of two readings
pub record SameRead (R Q : RulesRead) (p : ℕ) : Type 0 where
  pub columns : R.columns p ≡ Q.columns p
  pub rows : R.rows p ≡ Q.rows p
  pub calls : (k : ℕ) → k < Q.columns p → R.call p k ≡ Q.call p k
  pub offs : (c : ℕ) → R.off c ≡ Q.off c
  pub slots : (w k : ℕ) → w < Q.rows p → k < Q.columns p → R.slot p w k ≡ Q.slot p w k

-- is broken alike
module _ (R Q : RulesRead) (plan : List ℕ) (p : ℕ) (same : SameRead R Q p) where
  pub off_same : (k : ℕ) → k < Q.columns p → R.off (R.call p k) ≡ Q.off (Q.call p k)
  off_same k h = same.offs (R.call p k) ∙ ap Q.off (same.calls k h)

  fits_same : (w : ℕ) → w < Q.rows p → fits? R plan p w ≡ fits? Q plan p w
  unfolding fits?
  fits_same w hw =
      let f : ℕ → Bool = λ k. R.off (R.call p k) || eqb (R.slot p w k) (slot_in plan (R.call p k)) in
      let g : ℕ → Bool = λ k. Q.off (Q.call p k) || eqb (Q.slot p w k) (slot_in plan (Q.call p k)) in
      ap (λ (n : ℕ). every? n f) same.columns
      ∙ every_same (Q.columns p) f g (λ k h. rw (off_same k h, same.slots w k hw h, same.calls k h) refl)

  pub fitted_same : fitted? R plan p ≡ fitted? Q plan p
  unfolding fitted?
  fitted_same =
      ap (λ (n : ℕ). some? n (fits? R plan p)) same.rows ∙ some_same (Q.rows p) (fits? R plan p) (fits? Q plan p) fits_same

  binds_same : binds? R p ≡ binds? Q p
  unfolding binds?
  binds_same =
      let f : ℕ → Bool = λ k. not (R.off (R.call p k)) in
      let g : ℕ → Bool = λ k. not (Q.off (Q.call p k)) in
      ap (λ (n : ℕ). some? n f) same.columns ∙ some_same (Q.columns p) f g (λ k h. ap not (off_same k h))

  breaks_same : breaks? R plan p ≡ breaks? Q plan p
  unfolding breaks?
  breaks_same = rw (binds_same, fitted_same) refl

module _ (L : Ledger) (shape : LedgerShape L) (s : State) (rep : Represents L s) where
  -- a rule's calls are calls of the board
  call_small : (p k : ℕ) → k < length (rule_at L.board p).scope → call_at (rule_at L.board p) k < 32
  call_small p k h = go (get_or L.board.rules p none) refl h
    where
      go : (o : Option Rule) → get_or L.board.rules p none ≡ o → k < length (rule_or o).scope → call_at (rule_or o) k < 32
      go none e l = absurd (omega arith)
      go (some r) e l = let there = (shape.board.rules p r e).scope k l in omega (arith, shape.board.calls)

  pub same_read : (p : ℕ) → p < 64 → SameRead (rules_in s) (rules_of L.board) p
  same_read p hp =
      record {
        columns = columns_held L shape s rep p;
        rows = rows_held L shape s rep p;
        calls = λ k h.
            let few = columns_held L shape s rep p in
            let e = rep.stored.headed.scope p k hp (omega arith) in
            omega (arith, call_small p k h);
        offs = λ c. cancelled_held L.board shape.board rep.stored c;
        slots = λ w k hw hk.
            let few = columns_held L shape s rep p in
            let held = rows_held L shape s rep p in
            rep.stored.row_bytes_lem.bytes p w k hp (omega arith) (omega arith);
      }

  -- THE LOWEST BROKEN RULE off the memory is the board's
  pub broken_held : (plan : List ℕ) → lowest_broken (rules_in s) plan ≡ lowest_broken (rules_of L.board) plan
  unfolding lowest_broken
  broken_held plan =
      first_same 64 (breaks? (rules_in s) plan) (breaks? (rules_of L.board) plan)
      (λ p h. breaks_same (rules_in s) (rules_of L.board) plan p (same_read p h))

  -- and so are the slots that a call has in a plan
  pub slots_on_held : (c : ℕ) → slots_on_in s c ≡ slots_on L.board c
  slots_on_held c = rw (cancelled_held L.board shape.board rep.stored c, slots_held_lem L shape s rep c) refl
