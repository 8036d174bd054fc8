-- What the bytes say of a rule in force. Assumes nothing.
use Rattle.std.specs.Prelude.{◌≡◌, refl, List, ℕ, ◌≤◌, ◌<◌, get_or}
use Rattle.std.proofs.Common.{sym, ◌∙◌, ⊎_elim, arith}
use Rattle.std.proofs.Math.Path.{ap}
use Rattle.std.proofs.Math.Option.{Option, none, some}
use Rattle.std.proofs.Math.ListN.{length}
use Rattle.layout.specs.declared.value.Heads.{Heads}
use Rattle.model.specs.Board.{Rule, Board, call_at, slot_at, InForce, GoodRule, Shape}
use Rattle.model.specs.Representation.{rule_or, rule_at, Headed, RowBytes}
use Rattle.model.proofs.Laws.Change.{number_below}
use Rattle.filter_propagate.specs.Rules.{RuleBytes, rules_in, Distinct}
use Rattle.layout.specs.Places.{columns_of, call_of, slot_of, row_cell}
use Rattle.tables.specs.Laws.Facts.{lt_or_le}
use Rattle.filter_meaning.specs.Rules.{RulesOf, ReadAs}

pub stored_rules : (B : Board) (h : Heads) (rows : List ℕ) → Headed B h → RowBytes B rows → RulesOf B (rules_in rows h)
stored_rules B h rows hd rb = record { arity = hd.arity; scope = hd.scope; lengths = hd.lengths; bytes = rb.bytes }

one_column_of : {counts : List ℕ} {r : Rule} → GoodRule counts r → (j k : ℕ) → j < length r.scope → k < length r.scope → call_at r j ≡ call_at r k → j ≡ k
one_column_of good j k lj lk e =
    ⊎_elim
    (λ (h : j < k). absurd (good.apart j k h lk e))
    (λ (h : k ≤ j). ⊎_elim (λ (g : k < j). absurd (good.apart k j g lj (sym e))) (λ (g : j ≤ k). let z : j ≡ k = omega arith in z) (lt_or_le k j))
    (lt_or_le j k)

module _ (B : Board) (shape : Shape B) (R : RuleBytes) (known : RulesOf B R) where
  -- a number whose head has a column is in force
  pub in_force_lem : (p k : ℕ) → p < 64 → k < columns_of R.arity p → (r : Rule) × InForce B p r
  in_force_lem p k lp lk = go (get_or B.rules p none) refl
    where
      go : (o : Option Rule) → get_or B.rules p none ≡ o → (r : Rule) × InForce B p r
      go none e = let z : get_or R.arity p 0 ≡ 0 = known.arity p lp ∙ ap (λ (x : Option Rule). length (rule_or x).scope) e in absurd (omega arith)
      go (some r) e = (r, e)

  -- A RULE IN FORCE IS WHAT IS READ under its number
  pub read_as : (p : ℕ) (r : Rule) → InForce B p r → ReadAs R p r
  unfolding row_cell
  read_as p r f =
      let columns = known.arity p lp ∙ ap (λ (x : Rule). length x.scope) is in
      let rows = known.lengths p lp ∙ ap (λ (x : Rule). length x.rows) is in
      record {
        number = lp;
        columns = omega (arith, good.most);
        rows = omega (arith, good.few);
        call_below = call_below;
        call = call;
        slot = slot;
        place = λ w k lw lk. omega (arith, call k lk, slot w k lw lk);
        one_column = one_column_of good;
      }
    where
      lp : p < 64
      lp = number_below B shape p r f

      is : rule_at B p ≡ r
      is = ap rule_or f

      good : GoodRule B.counts r
      good = shape.rules p r f

      call_below : (k : ℕ) → k < length r.scope → call_at r k < 32
      call_below k lk = omega (arith, good.scope k lk, shape.calls)

      call : (k : ℕ) → k < length r.scope → call_of R.scope p k ≡ call_at r k
      call k lk =
          let e = known.scope p k lp (omega (arith, good.most)) ∙ ap (λ (x : Rule). call_at x k) is in
          omega (arith, call_below k lk)

      slot : (w k : ℕ) → w < length r.rows → k < length r.scope → slot_of R.rows p w k ≡ slot_at r w k
      slot w k lw lk =
          let e = known.bytes p w k lp (omega (arith, good.few)) (omega (arith, good.most)) ∙ ap (λ (x : Rule). slot_at x w k) is in
          omega (arith, good.slots w k lw lk, (shape.counts (call_at r k) (good.scope k lk)).1)

  -- so the calls of a rule are read as different
  pub distinct : (p : ℕ) → p < 64 → Distinct R.scope p (columns_of R.arity p)
  distinct p lp j k lj lk e =
      let x = in_force_lem p j lp lj in
      let b = read_as p x.0 x.1 in
      let lj' : j < length x.0.scope = omega arith in
      let lk' : k < length x.0.scope = omega arith in
      b.one_column j k lj' lk' (sym (b.call j lj') ∙ e ∙ b.call k lk')
