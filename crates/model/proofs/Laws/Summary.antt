-- LAWS OF THE SUMMARY: a call that is not on the board has zeros, a board has one current table, and the open figures of its records add up to O, which is also the
-- count over the slot bytes. Assumes nothing.
use Rattle.std.specs.Prelude.{◌≡◌, refl, Bool, not, List, [], ◌∷◌, ℕ, suc, ◌+◌, ◌*◌, ◌/◌, ◌%◌, ◌<◌, ◌≤◌, length, get_or, ltb}
use Rattle.std.proofs.Common.{sym, ap, ap₂, ◌∙◌, arith, ext_get_or, ltb→lt}
use Rattle.std.proofs.Math.Option.{Option, none, some}
use Rattle.std.proofs.lemmas.List.{length-replicate, get_or-replicate}
use Rattle.std.proofs.Math.ListN.{get_or-eq_default}
use Rattle.layout.specs.declared.summary.Summary.{Summary}
use Rattle.model.specs.Board.{Rule, Board, call_at, Cancelled, slots_on, OnBoard, Shape}
use Rattle.model.specs.Tests.{count_below}
use Rattle.model.specs.Filter.{in?, open_of}
use Rattle.model.specs.Ledger.{Ledger, bare}
use Rattle.model.specs.Report.{slot_count, open?, closed?}
use Rattle.model.specs.Representation.{rule_or, rule_at, Represents}
use Rattle.model.specs.Summary.{rule_on?, record_of, Current, open_total, open_sum}
use Rattle.model.proofs.Laws.Tests.{and→, not→, count_same, count_none, count_add, has→}
use Rattle.model.proofs.Laws.Theory.{on_count, on_live, live_not}
use Rattle.model.proofs.Laws.Filter.{found_viable}
use Rattle.model.proofs.Laws.Shapes.{shape_fresh}
use Rattle.model.proofs.Laws.Reports.{open_in, slots_same}
use Rattle.layout.specs.Memory.{State}
use Rattle.layout.specs.Summary.{no_summary, no_records}
use Rattle.layout.specs.Sizes.{slots_length, records_length}

-- a rule in force has up to four columns, each on a call of the board, and no two on the same
module _ (B : Board) (shape : Shape B) (p : ℕ) where
  pub column_in : (k : ℕ) → k < length (rule_at B p).scope → (k < 4) × (call_at (rule_at B p) k < length B.counts)
  column_in k h = go (get_or B.rules p none) refl h
    where
      go : (o : Option Rule) → get_or B.rules p none ≡ o → k < length (rule_or o).scope → (k < 4) × (call_at (rule_or o) k < length B.counts)
      go none e h = absurd (omega arith)
      go (some r) e h = let g = shape.rules p r e in let most = g.most in (omega arith, g.scope k h)

  pub calls_differ : (j k : ℕ) → j < k → k < length (rule_at B p).scope → call_at (rule_at B p) j ≡ call_at (rule_at B p) k → ⊥
  calls_differ j k l h = go (get_or B.rules p none) refl h
    where
      go : (o : Option Rule) → get_or B.rules p none ≡ o → k < length (rule_or o).scope → call_at (rule_or o) j ≡ call_at (rule_or o) k → ⊥
      go none e h same = omega arith
      go (some r) e h same = (shape.rules p r e).apart j k l h same

-- A CALL THAT IS NOT ON THE BOARD has no slots and no rules
pub absent_zero : (B : Board) → Shape B → (c : ℕ) → length B.counts ≤ c → c < records_length → record_of B c ≡ no_summary
absent_zero B shape c le lc =
    simp (
      count_none 32 (in? (open_of B) c) (λ s ls. not→ (in? (open_of B) c s) (λ t. let v = (found_viable B c s).0 t in off s (v.self.slots c s v.has))),
      count_none 32 (closed? B (open_of B) c)
          (λ s ls. not→ (closed? B (open_of B) c s) (λ t. off s (ltb→lt s (slots_on B c) (and→ (ltb s (slots_on B c)) (not (in? (open_of B) c s)) t).0))),
      count_none 64 (rule_on? B c)
          (λ p lp. not→ (rule_on? B c p) (λ t. let u = has→ 255 (rule_at B p).scope c t in let call = u.2 in omega (arith, (column_in B shape p u.0 u.1).1))),
    )
  where
    off : (s : ℕ) → OnBoard B c s → ⊥
    off s on = omega (arith, on_count B c s on, get_or-eq_default B.counts 0 le)

-- A CANCELLED CALL has none that is open and none that is struck
pub cancelled_zero : (B : Board) (c : ℕ) → Cancelled B c → ((record_of B c).«open» ≡ 0) × ((record_of B c).struck ≡ 0)
cancelled_zero B c g = (
  count_none 32 (in? (open_of B) c) (λ s ls. not→ (in? (open_of B) c s) (λ t. let v = (found_viable B c s).0 t in off s (v.self.slots c s v.has))),
  count_none 32 (closed? B (open_of B) c)
      (λ s ls. not→ (closed? B (open_of B) c s) (λ t. off s (ltb→lt s (slots_on B c) (and→ (ltb s (slots_on B c)) (not (in? (open_of B) c s)) t).0))),
)
  where
    off : (s : ℕ) → OnBoard B c s → ⊥
    off s on = live_not B c (on_live B c s on) g

-- A TABLE THAT IS CURRENT IS THE ONLY ONE
pub current_one : (B : Board) (t t' : List Summary) → Current B t → Current B t' → t ≡ t'
current_one B t t' now other =
    ext_get_or no_summary t t' (now.size ∙ sym other.size) (λ c h. let lc : c < records_length = omega (arith, now.size) in now.each c lc ∙ sym (other.each c lc))

pub fresh_current : Current (bare []) no_records
fresh_current =
    record {
      size = length-replicate records_length no_summary;
      each = λ c lc. get_or-replicate records_length c no_summary no_summary lc ∙ sym (absent_zero (bare []) shape_fresh.board c (omega arith) lc);
    }

-- THE OPEN SLOTS OF THE WHOLE BOARD, call by call
sum_of_counts : (t : List Summary) (f : ℕ → ℕ → Bool) → ((c : ℕ) → c < length t → (get_or t c no_summary).«open» ≡ count_below 32 (f c))
    → count_below (length t * 32) (λ i. f (i / 32) (i % 32)) ≡ open_sum t
sum_of_counts [] f is = refl
sum_of_counts (x ∷ t) f is =
    let size : length (x ∷ t) * 32 ≡ 32 + length t * 32 = omega arith in
    ap (λ (n : ℕ). count_below n (λ i. f (i / 32) (i % 32))) size
    ∙ count_add 32 (length t * 32) (λ i. f (i / 32) (i % 32))
    ∙ ap₂
    (λ (a b : ℕ). a + b)
    (count_same 32 (λ i. f (i / 32) (i % 32)) (f 0) (λ i h. let q : i / 32 ≡ 0 = omega arith in let r : i % 32 ≡ i = omega arith in rw (q, r) refl) ∙ sym (is 0 (omega arith)))
    (count_same (length t * 32) (λ i. f ((32 + i) / 32) ((32 + i) % 32)) (λ i. f (suc (i / 32)) (i % 32))
    (λ i h. let q : (32 + i) / 32 ≡ suc (i / 32) = omega arith in let r : (32 + i) % 32 ≡ i % 32 = omega arith in rw (q, r) refl)
    ∙ sum_of_counts t (λ c. f (suc c)) (λ c h. is (suc c) (omega arith)))

pub total_of_records : (B : Board) (t : List Summary) → Current B t → open_total B ≡ open_sum t
total_of_records B t current =
    let size : slots_length ≡ length t * 32 = omega (arith, current.size) in
    ap (λ (n : ℕ). count_below n (λ i. in? (open_of B) (i / 32) (i % 32))) size
    ∙ sum_of_counts t (in? (open_of B)) (λ c h. ap (λ (x : Summary). x.«open») (current.each c (omega (arith, current.size))))

pub total_of_bytes : (L : Ledger) (s : State) → Represents L s → open_total L.board ≡ slot_count (open? s.slots)
total_of_bytes L s rep = slots_same (in? (open_of L.board)) (open? s.slots) (λ c t lc lt. sym (open_in L s rep c t lc lt))
