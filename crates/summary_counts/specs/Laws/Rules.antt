-- THE COLUMNS ON EACH CALL, as the code adds them: column by column and rule by rule. Assumes nothing.
use Rattle.std.specs.Prelude.{◌≡◌, refl, Bool, true, false, cond, List, ℕ, ◌+◌, ◌*◌, ◌<◌, ◌≤◌, length, get_or, set, replicate}
use Rattle.std.proofs.Common.{sym, ap, ap₂, ◌∙◌, ⊎_elim, arith, add-one, length-set, get_or-set_same, get_or-set_other, Fits, lt-ltb, le-ltb, eq-eqb, ne_eqb}
use Rattle.std.proofs.lemmas.List.{length-replicate, get_or-replicate}
use Rattle.std.specs.Int.{w32}
use Rattle.tables.specs.Laws.Facts.{eq_or_ne}
use Rattle.layout.specs.Places.{call_of}
use Rattle.layout.specs.declared.value.Heads.{Heads}
use Rattle.model.specs.Tests.{count_below}
use Rattle.model.proofs.Laws.Tests.{count_bound, count_row}
use Rattle.summary_counts.specs.Counted.{column_on?, columns_on}
use Rattle.summary_counts.specs.Rules.{AtMost, ColumnAdded, ColumnsAdded, ColumnsTo}

-- A COLUMN past the arity adds nothing; one of the rule's adds 1 to its call
pub added_none : {scope : List ℕ} {q n k : ℕ} (on : List ℕ) → n ≤ k → ColumnAdded scope q n k on on
added_none {n = n} {k = k} on le = record { size = refl; each = λ c l. rw (le-ltb k n le) (omega arith) }

pub added_one : (scope : List ℕ) (q n k : ℕ) (on : List ℕ) → length on ≡ 32 → k < n
    → ColumnAdded scope q n k on (set on (call_of scope q k) (get_or on (call_of scope q k) 0 + 1))
added_one scope q n k on size lt =
    record {
      size = length-set on (call_of scope q k) (get_or on (call_of scope q k) 0 + 1);
      each = λ c l.
          ⊎_elim
          (λ (e : c ≡ call_of scope q k).
          rw (lt-ltb k n lt, eq-eqb (call_of scope q k) c (sym e), e)
          (get_or-set_same on (call_of scope q k) (get_or on (call_of scope q k) 0 + 1) 0 (omega arith)))
          (λ other.
          rw (lt-ltb k n lt, ne_eqb (call_of scope q k) c (λ e. other (sym e)))
          (get_or-set_other on (call_of scope q k) c (get_or on (call_of scope q k) 0 + 1) 0 other ∙ zero_more (get_or on c 0)))
          (eq_or_ne c (call_of scope q k));
    }
  where
    zero_more : (m : ℕ) → m ≡ m + 0
    zero_more m = omega arith

-- so that no number grows by more than 1
pub most_more : {scope : List ℕ} {q n k m : ℕ} {old new : List ℕ} → AtMost m old → ColumnAdded scope q n k old new → AtMost (m + 1) new
most_more {scope} {q} {n} {k} {m} {old} {new} most added =
    record { size = added.size ∙ most.size; each = λ c l. go (column_on? scope q n c k) (get_or old c 0) (get_or new c 0) (added.each c l) (most.each c l) }
  where
    go : (b : Bool) (x y : ℕ) → y ≡ x + cond b 1 0 → x ≤ m → y ≤ m + 1
    go true x y e h = omega arith
    go false x y e h = omega arith

pub most_within : {m n : ℕ} {on : List ℕ} → AtMost m on → m ≤ n → AtMost n on
most_within most le = record { size = most.size; each = λ c l. omega (arith, most.each c l) }

-- and there is room for 1 more
pub most_fits : {m : ℕ} {on : List ℕ} (c : ℕ) → AtMost m on → c < 32 → m < 256 → Fits w32 (get_or on c 0 + 1)
most_fits c most l few = omega (arith, most.each c l)

-- THE COLUMNS of a rule, one after the other
pub columns_none : (scope : List ℕ) (q n : ℕ) (on : List ℕ) → ColumnsAdded scope q n 0 on on
columns_none scope q n on = record { size = refl; each = λ c l. omega arith }

pub columns_more : {scope : List ℕ} {q n m : ℕ} {old mid new : List ℕ} → ColumnsAdded scope q n m old mid → ColumnAdded scope q n m mid new → ColumnsAdded scope q n (m + 1) old new
columns_more {scope} {q} {n} {m} {old} {mid} {new} so_far added =
    record {
      size = added.size ∙ so_far.size;
      each = λ c l. rw add-one (omega (arith, so_far.each c l, added.each c l));
    }

-- all four of them
pub added_four : {scope : List ℕ} {q n : ℕ} {a b d e f : List ℕ} → ColumnAdded scope q n 0 a b → ColumnAdded scope q n 1 b d → ColumnAdded scope q n 2 d e → ColumnAdded scope q n 3 e f
    → ColumnsAdded scope q n 4 a f
added_four {scope} {q} {n} {a} w x y z = columns_more (columns_more (columns_more (columns_more (columns_none scope q n a) w) x) y) z

-- none of them counts where the arity is 0
pub added_bare : (scope : List ℕ) (q n : ℕ) (on : List ℕ) → n ≡ 0 → ColumnsAdded scope q n 4 on on
added_bare scope q n on none = record { size = refl; each = λ c l. rw none (omega arith) }

-- THE RULES, one after the other
pub on_calls_none : (h : Heads) → ColumnsTo h 0 (replicate 32 0)
on_calls_none h = record { size = length-replicate {A = ℕ} 32 0; each = λ c l. get_or-replicate {A = ℕ} 32 c 0 0 l }

pub on_calls_more : {h : Heads} {q n : ℕ} {old new : List ℕ} → ColumnsTo h q old → n ≡ get_or h.arity q 0 → ColumnsAdded h.scope q n 4 old new → ColumnsTo h (q + 1) new
on_calls_more {h} {q} {n} {old} {new} so_far is added =
    let size : 4 * (q + 1) ≡ 4 * q + 4 = omega arith in
    record {
      size = added.size ∙ so_far.size;
      each = λ c l.
          added.each c l
          ∙ ap₂ (λ (a b : ℕ). a + b) (so_far.each c l) (ap (λ (m : ℕ). count_below 4 (column_on? h.scope q m c)) is)
          ∙ sym (count_row 4 q (λ p k. column_on? h.scope p (get_or h.arity p 0) c k) (omega arith))
          ∙ sym (ap (λ (m : ℕ). columns_on h m c) size);
    }

-- after the last, where the loop's test says that q is m
pub on_calls_at : {h : Heads} {q m : ℕ} {on : List ℕ} → ColumnsTo h q on → q ≤ m → m ≤ q → ColumnsTo h m on
on_calls_at {q = q} {m = m} x le ge = let e : m ≡ q = omega arith in rw e x

-- the columns of q rules are four for each at most
pub on_calls_most : {h : Heads} {q : ℕ} {on : List ℕ} → ColumnsTo h q on → AtMost (4 * q) on
on_calls_most {h} {q} {on} x =
    record {
      size = x.size;
      each = λ c l. below (get_or on c 0) (columns_on h (4 * q) c) (x.each c l) (count_bound (4 * q) _);
    }
  where
    below : (a b : ℕ) → a ≡ b → b ≤ 4 * q → a ≤ 4 * q
    below a b e h = omega arith
