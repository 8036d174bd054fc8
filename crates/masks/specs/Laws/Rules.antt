-- The rules on each call, rule by rule; the rules on the calls of a mask; and the pending rules. Assumes nothing.
use Rattle.std.specs.Prelude.{◌≡◌, refl, List, ◌⊎◌, Some, Bool, true, false, ℕ, ◌+◌, ◌-◌, ◌*◌, ◌/◌, ◌^◌, ◌≤◌, ◌<◌, length, get_or, set, replicate}
use Rattle.std.proofs.Common.{sym, ap, ◌∙◌, inl, inr, ⊎_elim, arith, eq-or-lt_of_le, ne_eqb, length-set, get_or-set_same, get_or-set_other}
use Rattle.std.specs.Int.Bits.{bit_and, bit_or}
use Rattle.std.specs.Int.Count.{count_trailing_zeros}
use Rattle.std.proofs.lemmas.List.{length-replicate, get_or-replicate}
use Rattle.std.proofs.Math.ListN.{get_or-eq_default}
use Rattle.std.proofs.Math.Pow.{pow-lt}
use Rattle.std.proofs.lemmas.Nat.{shr_le}
use Rattle.tables.specs.Assign.{Any, Flagged, Below}
use Rattle.tables.specs.Masks.{bit_of, Has, flags_of}
use Rattle.tables.specs.Sweep.{One, Swept}
use Rattle.tables.specs.Laws.Facts.{eq_or_ne, lt_or_le}
use Rattle.tables.specs.Laws.Left.{Left, Removed, left_all, left_lowest, left_more, taken_lowest, taken_only, taken_all}
use Rattle.tables.specs.Laws.Flags.{flags_length, flag_set, flag_clear, flags_set}
use Rattle.tables.specs.Laws.Masks.{
  bit_below,
  bit_zero,
  bit_and_lem,
  bit_not,
  bit_above,
  power_same,
  power_other,
  power_has,
  lowest,
  has_below,
  has_or_not,
  or_left,
  or_right,
  or_either,
  mask_none,
}
use Rattle.tables.specs.Laws.Sweep.{one_set, swept_more}
use Rattle.layout.specs.Places.{call_of, columns_of}
use Rattle.masks.specs.Laws.Columns.{four}
use Rattle.masks.specs.Rules.{OnCalls, OnCall, RulesTo, Inserted, ScopeRule, RuleDropped, OnAny, RulesOnAny, Without, Enqueues, NextRule}

-- RULES JOIN CALLS. Where none does, nothing changes
pub inserted_none : (Q : ℕ → ℕ → Type 0) (l : List ℕ) → ((c s : ℕ) → Q c s → ⊥) → Inserted Q l l
inserted_none Q l none = record { size = refl; stays = λ c s h. h; joins = λ c s q. absurd (none c s q); only = λ c s h. inl h }

-- one rule joins one call by its bit
module _ (Q : ℕ → ℕ → Type 0) (l : List ℕ) (d q : ℕ) (here : d < length l) (sets : Q d q) (alone : (c s : ℕ) → Q c s → (c ≡ d) × (s ≡ q)) where
  pub inserted_one : Inserted Q l (set l d (bit_or (get_or l d 0) (2 ^ q)))
  inserted_one = record { size = length-set l d v; stays = stays; joins = joins; only = only }
    where
      v : ℕ
      v = bit_or (get_or l d 0) (2 ^ q)

      stays : (c s : ℕ) → Has (get_or l c 0) s → Has (get_or (set l d v) c 0) s
      stays c s h =
          ⊎_elim
          (λ (e : c ≡ d). let g : Has (get_or l d 0) s = rw e at h in rw (e, get_or-set_same l d v 0 here) (or_left (get_or l d 0) (2 ^ q) s g))
          (λ ne. rw (get_or-set_other l d c v 0 ne) h)
          (eq_or_ne c d)

      joins : (c s : ℕ) → Q c s → Has (get_or (set l d v) c 0) s
      joins c s x =
          let a = alone c s x in
          rw (a.0, a.1, get_or-set_same l d v 0 here) (or_right (get_or l d 0) (2 ^ q) q (power_same q))

      only : (c s : ℕ) → Has (get_or (set l d v) c 0) s → Has (get_or l c 0) s ⊎ Q c s
      only c s h =
          ⊎_elim
          (λ (e : c ≡ d).
          let g : Has v s = rw (e, get_or-set_same l d v 0 here) at h in
          ⊎_elim (λ (o : Has (get_or l d 0) s). inl (rw e o)) (λ x. let f = power_has q s x in inr (rw (e, f) sets)) (or_either (get_or l d 0) (2 ^ q) s g))
          (λ ne. inl (rw (get_or-set_other l d c v 0 ne) at h))
          (eq_or_ne c d)

-- one set after another is both
pub inserted_both : {P Q : ℕ → ℕ → Type 0} {a b e : List ℕ} → Inserted P a b → Inserted Q b e → Inserted (λ c s. P c s ⊎ Q c s) a e
inserted_both x y =
    record {
      size = y.size ∙ x.size;
      stays = λ c s h. y.stays c s (x.stays c s h);
      joins = λ c s z. ⊎_elim (λ p. y.stays c s (x.joins c s p)) (λ q. y.joins c s q) z;
      only = λ c s h. ⊎_elim (λ g. ⊎_elim (λ o. inl o) (λ p. inr (inl p)) (x.only c s g)) (λ q. inr (inr q)) (y.only c s h);
    }

-- the set may be put in other words
pub inserted_same : (P Q : ℕ → ℕ → Type 0) {a b : List ℕ} → ((c s : ℕ) → Q c s → P c s) → ((c s : ℕ) → P c s → Q c s) → Inserted P a b → Inserted Q a b
inserted_same P Q back forth x =
    record {
      size = x.size;
      stays = x.stays;
      joins = λ c s q. x.joins c s (back c s q);
      only = λ c s h. ⊎_elim (λ o. inl o) (λ p. inr (forth c s p)) (x.only c s h);
    }

-- one column more
pub inserted_more : (scope : List ℕ) (q k : ℕ) {a b : List ℕ} → Inserted (ScopeRule scope q k) a b → call_of scope q k < length b
    → Inserted (ScopeRule scope q (k + 1)) a (set b (call_of scope q k) (bit_or (get_or b (call_of scope q k) 0) (2 ^ q)))
inserted_more scope q k {a} {b} x l = inserted_same Each (ScopeRule scope q (k + 1)) back forth (inserted_both x last)
  where
    Last : ℕ → ℕ → Type 0
    Last c s = (c ≡ call_of scope q k) × (s ≡ q)

    Each : ℕ → ℕ → Type 0
    Each c s = ScopeRule scope q k c s ⊎ Last c s

    last : Inserted Last b (set b (call_of scope q k) (bit_or (get_or b (call_of scope q k) 0) (2 ^ q)))
    last = inserted_one Last b (call_of scope q k) q l (refl, refl) (λ c s o. o)

    back : (c s : ℕ) → ScopeRule scope q (k + 1) c s → Each c s
    back c s t =
        let o = t.1 in
        let lt = o.1 in
        let le : o.0 ≤ k = omega arith in
        ⊎_elim (λ (e : o.0 ≡ k). inr (sym (rw e at o.2), t.0)) (λ less. inl (t.0, (o.0, less, o.2))) (eq-or-lt_of_le le)

    forth : (c s : ℕ) → Each c s → ScopeRule scope q (k + 1) c s
    forth c s u = ⊎_elim (λ t. let lt = t.1.1 in (t.0, (t.1.0, omega arith, t.1.2))) (λ o. (o.1, (k, omega arith, sym o.0))) u

-- it is rule q on the call of its column k, where that is one of its n
abbrev pub ColumnRule : List ℕ → ℕ → ℕ → ℕ → ℕ → ℕ → Type 0
ColumnRule scope q n k c s = (s ≡ q) × (k < n) × (call_of scope q k ≡ c)

-- the four columns of a rule, of which n are looked at
pub inserted_four : (scope : List ℕ) (q n : ℕ) {a b d e f : List ℕ} → n ≤ 4
    → Inserted (ColumnRule scope q n 0) a b → Inserted (ColumnRule scope q n 1) b d → Inserted (ColumnRule scope q n 2) d e → Inserted (ColumnRule scope q n 3) e f
    → Inserted (ScopeRule scope q n) a f
inserted_four scope q n le w x y z = inserted_same Each (ScopeRule scope q n) back forth (inserted_both (inserted_both (inserted_both w x) y) z)
  where
    Each : ℕ → ℕ → Type 0
    Each c s = ((ColumnRule scope q n 0 c s ⊎ ColumnRule scope q n 1 c s) ⊎ ColumnRule scope q n 2 c s) ⊎ ColumnRule scope q n 3 c s

    back : (c s : ℕ) → ScopeRule scope q n c s → Each c s
    back c s t =
        let o = t.1 in
        let lt = o.1 in
        four (λ k. ColumnRule scope q n k c s → Each c s) (λ v. inl (inl (inl v))) (λ v. inl (inl (inr v))) (λ v. inl (inr v)) (λ v. inr v) o.0 (omega arith) (t.0, lt, o.2)

    one : (c s k : ℕ) → ColumnRule scope q n k c s → ScopeRule scope q n c s
    one c s k v = (v.0, (k, v.1, v.2))

    forth : (c s : ℕ) → Each c s → ScopeRule scope q n c s
    forth c s t = ⊎_elim (λ u. ⊎_elim (λ v. ⊎_elim (one c s 0) (one c s 1) v) (one c s 2) u) (one c s 3) t

-- a rule of no columns joins no call
pub inserted_bare : (scope : List ℕ) (q n : ℕ) (l : List ℕ) → n ≡ 0 → Inserted (ScopeRule scope q n) l l
inserted_bare scope q n l z = inserted_none (ScopeRule scope q n) l (λ c s t. let lt = t.1.1 in omega arith)

-- THE RULES ON EACH CALL, before the first rule
pub rules_none : (arity scope : List ℕ) → RulesTo arity scope 0 (replicate 32 0)
rules_none arity scope =
    record { size = length-replicate {A = ℕ} 32 0; each = λ c l. let e = get_or-replicate {A = ℕ} 32 c 0 0 l in rw e (mask_none (OnCall arity scope c)) }

-- one rule more
pub rules_more : {arity scope : List ℕ} {q n : ℕ} {a b : List ℕ} → n ≡ columns_of arity q → RulesTo arity scope q a → Inserted (ScopeRule scope q n) a b → RulesTo arity scope (q + 1) b
rules_more {arity} {scope} {q} {n} {a} {b} e x y = record { size = y.size ∙ x.size; each = λ c l. record { has = has c l; only = only c l } }
  where
    has : (c : ℕ) → c < 32 → (s : ℕ) → s < q + 1 → OnCall arity scope c s → Has (get_or b c 0) s
    has c l s ls o =
        ⊎_elim
        (λ (f : s ≡ q).
        let on : OnCall arity scope c q = rw f at o in
        let lt = on.1 in
        y.joins c s (f, (on.0, omega arith, on.2)))
        (λ ne. y.stays c s ((x.each c l).has s (omega arith) o))
        (eq_or_ne s q)

    only : (c : ℕ) → c < 32 → (s : ℕ) → Has (get_or b c 0) s → (s < q + 1) × OnCall arity scope c s
    only c l s h =
        ⊎_elim
        (λ g. let f = (x.each c l).only s g in let lt = f.0 in (omega arith, f.1))
        (λ t.
        let f : s ≡ q = t.0 in
        let on = t.1 in
        let lt = on.1 in
        let z : OnCall arity scope c q = (on.0, omega arith, on.2) in
        (omega arith, rw f z))
        (y.only c s h)

-- after the last rule, where the loop's test says that n is m
pub rules_at : {arity scope : List ℕ} {n m : ℕ} {l : List ℕ} → RulesTo arity scope n l → n ≤ m → m ≤ n → RulesTo arity scope m l
rules_at {n = n} {m = m} x le ge = let e : m ≡ n = omega arith in rw e x

-- A RULE LEAVES a mask of 64 rules
pub without_power : (m p : ℕ) → p < 64 → Without p m (bit_and m ((2 ^ 64 - 1) - 2 ^ p))
without_power m p l =
    let small : 2 ^ p < 2 ^ 64 = pow-lt l in
    record {
      gone = omega (arith, bit_and_lem m ((2 ^ 64 - 1) - 2 ^ p) p, bit_not 64 (2 ^ p) p small l, power_same p);
      others = λ q lq ne. omega (arith, bit_and_lem m ((2 ^ 64 - 1) - 2 ^ p) q, bit_not 64 (2 ^ p) q small lq, power_other p q ne, bit_below m q);
    }

-- entry by entry, where masks have 64 bits
abbrev pub Leaves : ℕ → ℕ → ℕ → ℕ → Type 0
Leaves p c m r = Without p m r × (r < 2 ^ 64)

-- one entry more
pub leaves_more : {p c v : ℕ} {a b : List ℕ} → c < length b → Swept 0 (Leaves p) 0 c a b → Without p (get_or b c 0) v → v < 2 ^ 64 → Swept 0 (Leaves p) 0 (c + 1) a (set b c v)
leaves_more {p} {c} {v} {a} {b} l x w lv =
    let e : 0 + c ≡ c = omega arith in
    let one : One 0 (Leaves p) 0 c b (set b (0 + c) v) = one_set 0 (Leaves p) 0 c b v (omega arith) (rw e (w, lv)) in
    swept_more 0 (Leaves p) 0 c a b (set b c v) x (rw e at one)

-- after the last entry
pub dropped : {p : ℕ} {a b : List ℕ} → Swept 0 (Leaves p) 0 32 a b → RuleDropped p a b
dropped {p} {a} {b} x = record { size = x.len; kept = kept; only = only }
  where
    at : (c : ℕ) → c < 32 → Leaves p c (get_or a c 0) (get_or b c 0)
    at c l = let e : 0 + c ≡ c = omega arith in rw e at (x.inside c l)

    kept : (c q : ℕ) → c < 32 → q < 64 → (q ≡ p → ⊥) → Has (get_or a c 0) q → Has (get_or b c 0) q
    kept c q l lq ne h = (at c l).0.others q lq ne ∙ h

    only : (c q : ℕ) → c < 32 → Has (get_or b c 0) q → Has (get_or a c 0) q × (q ≡ p → ⊥)
    only c q l h =
        let w = at c l in
        let ne : q ≡ p → ⊥ = λ e. let g : Has (get_or b c 0) p = rw e at h in omega (arith, w.0.gone) in
        (sym (w.0.others q (has_below 64 (get_or b c 0) q w.1 h) ne) ∙ h, ne)

-- THE RULES ON THE CALLS OF A MASK, from its lowest call on: rules has those on the calls that are not left
pub record Gathered (on : List ℕ) (calls rules left : ℕ) : Type 0 where
  pub lowest_first : Left 32 calls left
  pub has : (c q : ℕ) → Removed calls left c → Has (get_or on c 0) q → Has rules q
  pub only : (q : ℕ) → Has rules q → OnAny on calls q

-- before the first call all are left
pub gathered_none : (on : List ℕ) (calls : ℕ) → calls < 2 ^ 32 → Gathered on calls 0 calls
gathered_none on calls l =
    record { lowest_first = left_all 32 calls l; has = λ c q t. absurd (t.out t.had); only = λ q h. absurd (omega (arith, bit_zero q)) }

-- the lowest call that is left
pub gathered_more : {on : List ℕ} {calls rules left : ℕ} → (left ≡ 0 → ⊥) → Gathered on calls rules left
    → Gathered on calls (bit_or rules (get_or on (count_trailing_zeros 32 left) 0)) (bit_and left (left - 1))
gathered_more {on} {calls} {rules} {left} some x = record { lowest_first = left_more some x.lowest_first; has = has; only = only }
  where
    t : ℕ
    t = count_trailing_zeros 32 left

    has : (c q : ℕ) → Removed calls (bit_and left (left - 1)) c → Has (get_or on c 0) q → Has (bit_or rules (get_or on t 0)) q
    has c q k h =
        ⊎_elim
        (λ before. or_left rules (get_or on t 0) q (x.has c q before h))
        (λ (e : c ≡ t). let f : Has (get_or on t 0) q = rw e at h in or_right rules (get_or on t 0) q f)
        (taken_only some x.lowest_first c k)

    only : (q : ℕ) → Has (bit_or rules (get_or on t 0)) q → OnAny on calls q
    only q h =
        ⊎_elim
        (x.only q)
        (λ z. (t, (left_lowest some x.lowest_first).place, (taken_lowest some x.lowest_first).had, z))
        (or_either rules (get_or on t 0) q h)

-- after the last call none is left
pub gathered_all : {on : List ℕ} {calls rules left : ℕ} → left ≡ 0 → Gathered on calls rules left → RulesOnAny on calls rules
gathered_all z x = record { has = λ q o. x.has o.0 q (taken_all z o.2) o.3; only = x.only }

-- THE PENDING RULES: some join, and rule p leaves
pub enqueues : {on : List ℕ} {calls p pending rules r : ℕ} → pending < 2 ^ 64 → rules < 2 ^ 64 → r < 2 ^ 64 → RulesOnAny on calls rules → Without p (bit_or pending rules) r → Enqueues on calls p pending r
enqueues {on} {calls} {p} {pending} {rules} {r} lp lq lr x w = record { kept = kept; joins = joins; only = only }
  where
    kept : (q : ℕ) → (q ≡ p → ⊥) → Has pending q → Has r q
    kept q ne h = w.others q (has_below 64 pending q lp h) ne ∙ or_left pending rules q h

    joins : (q : ℕ) → (q ≡ p → ⊥) → OnAny on calls q → Has r q
    joins q ne o = let h = x.has q o in w.others q (has_below 64 rules q lq h) ne ∙ or_right pending rules q h

    only : (q : ℕ) → Has r q → (q ≡ p → ⊥) × (Has pending q ⊎ OnAny on calls q)
    only q h =
        let ne : q ≡ p → ⊥ = λ e. let g : Has r p = rw e at h in omega (arith, w.gone) in
        let g = sym (w.others q (has_below 64 r q lr h) ne) ∙ h in
        (ne, ⊎_elim (λ z. inl z) (λ z. inr (x.only q z)) (or_either pending rules q g))

-- THE NEXT RULE: the lowest of all is a pending rule, where there is one
pub next_lowest : (m : ℕ) → m < 2 ^ 64 → (m ≡ 0 → ⊥) → NextRule m (Some (count_trailing_zeros 64 m))
next_lowest m l ne = let x = lowest 64 m l (omega arith) in (x.place, x.here)

-- so is the lowest above p
pub next_above : (m p : ℕ) → m < 2 ^ 64 → (m / 2 ^ p / 2 ≡ 0 → ⊥) → NextRule m (Some (p + 1 + count_trailing_zeros 64 (m / 2 ^ p / 2)))
next_above m p l ne =
    let above = m / 2 ^ p / 2 in
    let t = count_trailing_zeros 64 above in
    let x = lowest 64 above (omega (arith, shr_le m p)) (omega arith) in
    let e : p + 1 + t ≡ p + (1 + t) = omega arith in
    let h : Has m (p + 1 + t) = rw e (sym (bit_above m p (1 + t)) ∙ sym (bit_above (m / 2 ^ p) 1 t) ∙ x.here) in
    (has_below 64 m (p + 1 + t) l h, h)

-- THE TABLE OF FLAGS of a mask without p has p clear
pub flags_without : {p m r : ℕ} → p < 64 → Without p m r → flags_of 64 r ≡ set (flags_of 64 m) p false
flags_without {p} {m} {r} l w = flags_set 64 m r p false l (ne_eqb (bit_of r p) 1 (λ e. omega (arith, w.gone))) w.others

-- the columns of rule q are the same in two tables
abbrev pub SameScope : List ℕ → List ℕ → List ℕ → List ℕ → ℕ → Type 0
SameScope arity scope arity' scope' q = (get_or arity' q 0 ≡ get_or arity q 0) × ((k : ℕ) → k < 4 → get_or scope' (4 * q + k) 0 ≡ get_or scope (4 * q + k) 0)

-- so it is on the same calls
on_same : (arity scope arity' scope' : List ℕ) (c q : ℕ) → SameScope arity scope arity' scope' q → OnCall arity' scope' c q → OnCall arity scope c q
on_same arity scope arity' scope' c q same o =
    let few = same.0 in
    let lt = o.1 in
    let is = o.2 in
    (o.0, omega arith, omega (arith, same.1 o.0 (omega arith)))

back_same : (arity scope arity' scope' : List ℕ) (q : ℕ) → SameScope arity scope arity' scope' q → SameScope arity' scope' arity scope q
back_same arity scope arity' scope' q same = (sym same.0, λ k l. sym (same.1 k l))

-- THE TABLE WITHOUT RULE p is that of the rules without it, where the columns of every other rule are as they were
pub dropped_rules : (arity scope arity' scope' on on' : List ℕ) (p : ℕ) → p < 64 → RulesTo arity scope 64 on → RuleDropped p on on' → get_or arity' p 0 ≡ 0
    → ((q : ℕ) → (q ≡ p → ⊥) → q < 64 → SameScope arity scope arity' scope' q) → RulesTo arity' scope' 64 on'
dropped_rules arity scope arity' scope' on on' p lp x y gone same = record { size = y.size ∙ x.size; each = λ c l. record { has = has c l; only = only c l } }
  where
    has : (c : ℕ) → c < 32 → (q : ℕ) → q < 64 → OnCall arity' scope' c q → Has (get_or on' c 0) q
    has c l q lq o =
        let ne : q ≡ p → ⊥ = λ e. let lt = o.1 in omega (arith, gone, ap (λ (j : ℕ). get_or arity' j 0) e) in
        y.kept c q l lq ne ((x.each c l).has q lq (on_same arity scope arity' scope' c q (same q ne lq) o))

    only : (c : ℕ) → c < 32 → (q : ℕ) → Has (get_or on' c 0) q → (q < 64) × OnCall arity' scope' c q
    only c l q h =
        let was = y.only c q l h in
        let f = (x.each c l).only q was.0 in
        (f.0, on_same arity' scope' arity scope c q (back_same arity scope arity' scope' q (same q was.1 f.0)) f.1)

-- A RULE ON THE CALLS OF THE MASK, by its columns and by the table
module _ {arity scope on : List ℕ} (x : RulesTo arity scope 64 on) (calls q : ℕ) where
  any_of_columns : q < 64 → OnCalls (Has calls) scope q (columns_of arity q) → OnAny on calls q
  any_of_columns l o =
      let c = call_of scope q o.0 in
      let lc : c < 32 = omega arith in
      (c, lc, o.2, (x.each c lc).has q l (o.0, o.1, refl))

  columns_of_any : OnAny on calls q → (q < 64) × OnCalls (Has calls) scope q (columns_of arity q)
  columns_of_any o =
      let f = (x.each o.0 o.1).only q o.3 in
      let k = f.1 in
      (f.0, (k.0, k.1, rw k.2 o.2))

-- THE FLAGS OF THE PENDING RULES after those on the calls of the mask joined and p left
pub enqueued : {arity scope on : List ℕ} {calls p pending r : ℕ} → RulesTo arity scope 64 on → p < 64 → Enqueues on calls p pending r
    → Flagged (Below (λ q j. (j ≡ q) × (q ≡ p → ⊥) × OnCalls (Has calls) scope q (columns_of arity q)) 64) (set (flags_of 64 pending) p false) (flags_of 64 r)
enqueued {arity} {scope} {on} {calls} {p} {pending} {r} x lp y = record { len = flags_length 64 r ∙ sym size; written = written; each = each }
  where
    old : List Bool
    old = set (flags_of 64 pending) p false

    Joins : ℕ → ℕ → Type 0
    Joins q j = (j ≡ q) × (q ≡ p → ⊥) × OnCalls (Has calls) scope q (columns_of arity q)

    size : length old ≡ 64
    size = length-set (flags_of 64 pending) p false ∙ flags_length 64 pending

    written : (j : ℕ) → Below Joins 64 j → Any (get_or old j false) → get_or (flags_of 64 r) j false ≡ true
    written j b u =
        let i = b.2 in
        let e : j ≡ b.0 = i.0 in
        rw e (flag_set 64 r b.0 b.1 (y.joins b.0 i.1 (any_of_columns x calls b.0 b.1 i.2)))

    stays : (j : ℕ) → (j ≡ p → ⊥) → get_or old j false ≡ get_or (flags_of 64 pending) j false
    stays j ne = get_or-set_other (flags_of 64 pending) p j false false ne

    inside : (j : ℕ) → j < 64 → Has r j ⊎ (Has r j → ⊥) → (get_or (flags_of 64 r) j false ≡ get_or old j false) ⊎ (Any (get_or old j false) × (get_or (flags_of 64 r) j false ≡ true) × Below Joins 64 j)
    inside j l (inl h) =
        let o = y.only j h in
        ⊎_elim
        (λ was. inl (flag_set 64 r j l h ∙ sym (stays j o.0 ∙ flag_set 64 pending j l was)))
        (λ any. inr (tt, flag_set 64 r j l h, (j, l, (refl, o.0, (columns_of_any x calls j any).1))))
        o.1
    inside j l (inr n) =
        ⊎_elim
        (λ (e : j ≡ p). inl (flag_clear 64 r j l n ∙ sym (rw e (get_or-set_same (flags_of 64 pending) p false false (omega (arith, flags_length 64 pending))))))
        (λ ne. inl (flag_clear 64 r j l n ∙ sym (stays j ne ∙ flag_clear 64 pending j l (λ was. n (y.kept j ne was)))))
        (eq_or_ne j p)

    each : (j : ℕ) → (get_or (flags_of 64 r) j false ≡ get_or old j false) ⊎ (Any (get_or old j false) × (get_or (flags_of 64 r) j false ≡ true) × Below Joins 64 j)
    each j =
        ⊎_elim
        (λ l. inside j l (has_or_not r j))
        (λ past. inl (get_or-eq_default (flags_of 64 r) false (omega (arith, flags_length 64 r)) ∙ sym (get_or-eq_default old false (omega (arith, size)))))
        (lt_or_le j 64)

-- and the first time, from none
pub enqueued_first : {arity scope on : List ℕ} {calls r : ℕ} → RulesTo arity scope 64 on → RulesOnAny on calls r
    → ((q : ℕ) → q < 64 → OnCalls (Has calls) scope q (columns_of arity q) → Has r q) × ((q : ℕ) → Has r q → (q < 64) × OnCalls (Has calls) scope q (columns_of arity q))
enqueued_first {calls = calls} x y = (λ q l o. y.has q (any_of_columns x calls q l o), λ q h. columns_of_any x calls q (y.only q h))
