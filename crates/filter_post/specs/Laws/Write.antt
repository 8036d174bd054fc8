-- Two stores and two copies write a rule. Assumes nothing.
use Rattle.std.specs.Prelude.{◌≡◌, List, ◌≢◌, ℕ, suc, ◌+◌, ◌*◌, ◌≤◌, ◌<◌, length, get_or, set}
use Rattle.std.proofs.Common.{⊎_elim, mul-suc, mul-le-mul_left, arith, length-set, get_or-set_same, get_or-set_other}
use Rattle.layout.specs.declared.value.RuleData.{RuleData}
use Rattle.tables.specs.Sweep.{Swept}
use Rattle.filter_propagate.specs.Rules.{bytes_of}
use Rattle.tables.specs.Laws.Facts.{lt_or_le}
use Rattle.filter_post.specs.Write.{Copied, RuleWritten}

-- where part p of a table is swept, of parts of n entries each, the other parts are as they were
pub swept_apart : {A : Type 0} {d : A} {S : ℕ → A → A → Type 0} (n p q i : ℕ) {old new : List A} → Swept d S (n * p) n old new → q ≢ p → i < n
    → get_or new (n * q + i) d ≡ get_or old (n * q + i) d
swept_apart n p q i sw ne li =
    ⊎_elim
    (λ (h : q < p). sw.below (n * q + i) (omega (arith, mul-le-mul_left n h, mul-suc n q)))
    (λ (h : p ≤ q). let g : suc p ≤ q = omega arith in sw.above (n * q + i) (omega (arith, mul-le-mul_left n g, mul-suc n p)))
    (lt_or_le q p)

-- two stores and two copies write a rule
pub written_by : {p : ℕ} {rule : RuleData} {rows arity scope lengths rows' scope' : List ℕ} → length arity ≡ 64 → length lengths ≡ 64 → p < 64
    → Swept 0 (Copied rule.scope) (4 * p) 4 scope scope' → Swept 0 (Copied rule.rows) (256 * p) 256 rows rows'
    → RuleWritten p rule (bytes_of rows arity scope lengths) (bytes_of rows' (set arity p rule.arity) scope' (set lengths p rule.length))
written_by {p} {rule} {rows} {arity} {scope} {lengths} {rows'} la ll lp heads bytes =
    record {
      arity = get_or-set_same arity p rule.arity 0 (omega arith);
      lengths = get_or-set_same lengths p rule.length 0 (omega arith);
      scope = heads.inside;
      bytes = λ w k lw lk. rw (row p w k) (bytes.inside (4 * w + k) (omega arith));
      other = λ q ne.
          record {
            arity = get_or-set_other arity p q rule.arity 0 ne;
            lengths = get_or-set_other lengths p q rule.length 0 ne;
            scope = λ k lk. swept_apart 4 p q k heads ne lk;
            bytes = λ w k lw lk. rw (row q w k) (swept_apart 256 p q (4 * w + k) bytes ne (omega arith));
          };
      rows_size = bytes.len;
      arity_size = length-set arity p rule.arity;
      scope_size = heads.len;
      lengths_size = length-set lengths p rule.length;
    }
  where
    row : (q w k : ℕ) → 256 * q + 4 * w + k ≡ 256 * q + (4 * w + k)
    row q w k = omega arith
