-- A ROW MATCHES THE PLAN'S WORD, IN THE COLUMNS OF THE MASK, EXACTLY WHERE IT FITS THE PLAN. Assumes nothing.
use Rattle.std.specs.Prelude.{◌≡◌, Bool, ◌&&◌, ◌||◌, List, ◌⊎◌, ◌≢◌, length, get_or, T, ltb}
use Rattle.std.proofs.Math.Path.{refl, sym, ap, subst}
use Rattle.std.proofs.Common.{ap₂, ◌∙◌, ⊎_elim, add-zero, ltb→lt, T_not, lt-ltb, le-ltb}
use Rattle.std.proofs.Math.Bool.{true, false, not, cond}
use Rattle.std.proofs.Math.Logic.{inl, inr}
use Prim.Native.Nat.{ℕ, ◌+◌, ◌<◌, ◌≤◌}
use native.Mathlib.Omega.{arith}
use Rattle.std.proofs.Math.Dec.{eqb, eqb→eq}
use Rattle.std.specs.Int.Bits.{bit_and}
use Rattle.tables.specs.Laws.Facts.{true_false, true_or_false, any_default}
use Rattle.layout.specs.Places.{columns_of, call_of, cancelled?, row_start}
use Rattle.layout.specs.declared.value.Heads.{Heads}
use Rattle.layout.specs.Memory.{State}
use Rattle.masks.specs.Columns.{word_at}
use Rattle.model.specs.Tests.{some?}
use Rattle.model.proofs.Laws.Tests.{and→, or→, →or, →T, T→, not→, same_test, →eqb, none_passes, some→, every→, →every}
use Rattle.model.proofs.Laws.Search.{some_same}
use Rattle.plan_model.specs.Plans.{plan_size, RulesRead, rules_in, slot_in, fits?, fitted?, binds?, breaks?}
use Rattle.plan_fit.specs.Words.{column_call, ColumnCalls, mask_byte, plan_byte, IsWord, row_matches?}
use Rattle.plan_fit.specs.Laws.Words.{word_of, Bytes, masked_by, byte_small, same_bytes, same_word, and_word}

-- THE CALL OF A COLUMN, as the code finds it: past the columns, of a cancelled call, or one that counts
module _ (heads : Heads) (slots : List ℕ) (p k : ℕ) {n : ℕ} (columns : n ≡ columns_of heads.arity p) where
  pub call_past : n ≤ k → 255 ≡ column_call heads slots p k
  unfolding column_call
  call_past h = rw (le-ltb k (columns_of heads.arity p) (omega arith)) refl

  pub call_off : k < n → true ≡ cancelled? slots (call_of heads.scope p k) → 255 ≡ column_call heads slots p k
  unfolding column_call
  call_off h off = rw (lt-ltb k (columns_of heads.arity p) (omega arith), ← off) refl

  pub call_here : k < n → false ≡ cancelled? slots (call_of heads.scope p k) → call_of heads.scope p k ≡ column_call heads slots p k
  unfolding column_call
  call_here h off = rw (lt-ltb k (columns_of heads.arity p) (omega arith), ← off) refl

-- A NUMBER THAT IS NOT IN FORCE is not broken
pub no_rule_broken : (s : State) (plan : List ℕ) (p : ℕ) → get_or s.value.heads.arity p 0 ≡ 0 → false ≡ breaks? (rules_in s) plan p
unfolding breaks? binds?
no_rule_broken s plan p e = rw e refl

-- ONE RULE of a state, with the words that the code makes of its columns and of the plan
module _ (s : State) (plan : List ℕ) (size : length plan ≡ plan_size) (p : ℕ) {calls : List ℕ}
    (columns : ColumnCalls s.value.heads s.slots p calls) {mask : ℕ} (masked : IsWord calls mask_byte mask) where
  abbrev R : RulesRead
  R = rules_in s

  -- column k counts
  abbrev counts? : ℕ → Bool
  counts? k = ltb k (R.columns p) && not (R.off (R.call p k))

  -- the byte of column k, for any byte v of a call: v of the call where the column counts, else 0
  column_byte : (v : ℕ → ℕ) (k : ℕ) → k < 4 → cond (ltb (get_or calls k 0) 32) (v (get_or calls k 0)) 0 ≡ cond (counts? k) (v (R.call p k)) 0
  unfolding column_call
  column_byte v k h = rw (columns.each k h) (go (counts? k))
    where
      go : (b : Bool) → cond (ltb (cond b (R.call p k) 255) 32) (v (cond b (R.call p k) 255)) 0 ≡ cond b (v (R.call p k)) 0
      go true = let small : R.call p k < 32 = omega arith in ap (λ (b : Bool). cond b (v (R.call p k)) 0) (lt-ltb (R.call p k) 32 small)
      go false = refl

  mask_is : mask ≡ word_of (λ k. cond (counts? k) 255 0)
  mask_is = masked.is ∙ same_word (λ k. mask_byte (get_or calls k 0)) (λ k. cond (counts? k) 255 0) (column_byte (λ c. 255))

  -- A RULE BINDS exactly where the mask is not 0
  counts→ : (k : ℕ) → T (counts? k) → (k < R.columns p) × T (not (R.off (R.call p k)))
  counts→ k t = let d = and→ (ltb k (R.columns p)) (not (R.off (R.call p k))) t in (ltb→lt k (R.columns p) d.0, d.1)

  none_counts : binds? R p ≡ false → (k : ℕ) → counts? k ≡ false
  unfolding binds?
  none_counts e k =
      not→ (counts? k)
      (λ t. let d = counts→ k t in
      true_false (T→ (not (R.off (R.call p k))) d.1) (none_passes (R.columns p) (λ k. not (R.off (R.call p k))) e k d.0))

  no_mask : mask ≡ 0 → binds? R p ≡ false
  unfolding binds?
  no_mask e =
      not→ (some? (R.columns p) (λ k. not (R.off (R.call p k))))
      (λ t.
      let f = some→ (R.columns p) (λ k. not (R.off (R.call p k))) t in
      let here : counts? f.0 ≡ true = rw (lt-ltb f.0 (R.columns p) f.1) (T→ (not (R.off (R.call p f.0))) f.2) in
      let byte = same_bytes (λ k. cond (counts? k) 255 0) (λ k. 0) (λ k h. byte_small (counts? k)) (λ k h. omega arith) (sym mask_is ∙ e) f.0 (omega arith) in
      let whole : ℕ = 255 in
      let z : whole ≡ 0 = subst (λ (b : Bool). cond b whole 0 ≡ 0) here byte in
      absurd (omega arith))

  some_mask : mask ≢ 0 → binds? R p ≡ true
  some_mask n =
      ⊎_elim (λ e. e)
      (λ e. absurd (n (mask_is ∙ same_word (λ k. cond (counts? k) 255 0) (λ k. 0) (λ k h. ap (λ (b : Bool). cond b 255 0) (none_counts e k)))))
      (true_or_false (binds? R p))

  pub unbound : mask ≡ 0 → false ≡ breaks? R plan p
  unfolding breaks?
  unbound e = rw (no_mask e) refl

  -- A ROW MATCHES exactly where it fits
  module _ {wanted : ℕ} (wanted-is : IsWord calls (plan_byte plan) wanted) (bytes : (j : ℕ) → get_or s.rows j 0 < 256) where
    abbrev planned : ℕ → ℕ
    planned k = cond (counts? k) (slot_in plan (R.call p k)) 0

    planned_is : (k : ℕ) → k < 4 → plan_byte plan (get_or calls k 0) ≡ planned k
    planned_is k h =
        column_byte (λ c. get_or plan c 0) k h ∙ ap (λ (n : ℕ). cond (counts? k) n 0) (any_default 0 255 plan (R.call p k) (rw size (omega arith)))

    wanted_word : wanted ≡ word_of planned
    wanted_word = wanted-is.is ∙ same_word (λ k. plan_byte plan (get_or calls k 0)) planned planned_is

    planned_small : Bytes planned
    planned_small k h = subst (λ (n : ℕ). n < 256) (planned_is k h) (wanted-is.small k h)

    row_word : (w : ℕ) → bit_and (word_at s.rows (row_start p w)) mask ≡ word_of (masked_by (R.slot p w) counts?)
    row_word w =
        let first : get_or s.rows (row_start p w + 0) 0 ≡ get_or s.rows (row_start p w) 0 = ap (λ (j : ℕ). get_or s.rows j 0) (add-zero (row_start p w)) in
        let read : word_at s.rows (row_start p w) ≡ word_of (R.slot p w) = omega arith in
        ap₂ bit_and read mask_is
        ∙ and_word (R.slot p w) counts? (λ k h. bytes (row_start p w + k))

    match→ : (w : ℕ) → T (row_matches? s.rows p mask wanted w) → T (fits? R plan p w)
    unfolding fits?
    match→ w t =
        let same = same_bytes (masked_by (R.slot p w) counts?) planned (masked_small w) planned_small
        (sym (row_word w) ∙ eqb→eq (bit_and (word_at s.rows (row_start p w)) mask) wanted t ∙ wanted_word) in
        →every (R.columns p) (λ k. R.off (R.call p k) || eqb (R.slot p w k) (slot_in plan (R.call p k)))
        (λ k h.
        →or (R.off (R.call p k)) (eqb (R.slot p w k) (slot_in plan (R.call p k)))
        (⊎_elim (λ off. inl (→T (R.off (R.call p k)) off))
        (λ on.
        let here : counts? k ≡ true = rw (lt-ltb k (R.columns p) h) (ap not on) in
        inr (→eqb (R.slot p w k) (slot_in plan (R.call p k))
        (subst (λ (b : Bool). cond b (R.slot p w k) 0 ≡ cond b (slot_in plan (R.call p k)) 0) here (same k (omega arith)))))
        (true_or_false (R.off (R.call p k)))))
      where
        masked_small : (w : ℕ) → Bytes (masked_by (R.slot p w) counts?)
        masked_small w k h = go (counts? k)
          where
            go : (b : Bool) → cond b (R.slot p w k) 0 < 256
            go true = bytes (row_start p w + k)
            go false = omega arith

    →match : (w : ℕ) → T (fits? R plan p w) → T (row_matches? s.rows p mask wanted w)
    unfolding fits?
    →match w t =
        →eqb (bit_and (word_at s.rows (row_start p w)) mask) wanted
        (row_word w ∙ same_word (masked_by (R.slot p w) counts?) planned (λ k h. at k (true_or_false (counts? k))) ∙ sym wanted_word)
      where
        at : (k : ℕ) → (counts? k ≡ true) ⊎ (counts? k ≡ false) → masked_by (R.slot p w) counts? k ≡ planned k
        at k (inr e) = rw e refl
        at k (inl e) =
            let d = counts→ k (→T (counts? k) e) in
            rw e
            (⊎_elim (λ off. absurd (T_not (R.off (R.call p k)) d.1 off)) (λ same. eqb→eq (R.slot p w k) (slot_in plan (R.call p k)) same)
            (or→ (R.off (R.call p k)) (eqb (R.slot p w k) (slot_in plan (R.call p k)))
            (every→ (R.columns p) (λ k. R.off (R.call p k) || eqb (R.slot p w k) (slot_in plan (R.call p k))) t k d.0)))

    -- so some row matches exactly where the rule has a row that fits
    pub matched_fitted : some? (R.rows p) (row_matches? s.rows p mask wanted) ≡ fitted? R plan p
    unfolding fitted?
    matched_fitted =
        some_same (R.rows p) (row_matches? s.rows p mask wanted) (fits? R plan p)
        (λ w h. same_test (row_matches? s.rows p mask wanted w) (fits? R plan p w) (match→ w) (→match w))

    -- and a rule that binds is broken where no row matches
    pub broken_unless : mask ≢ 0 → {found : Bool} → found ≡ some? (R.rows p) (row_matches? s.rows p mask wanted) → not found ≡ breaks? R plan p
    unfolding breaks?
    broken_unless n e = rw (some_mask n) (ap not (e ∙ matched_fitted))
