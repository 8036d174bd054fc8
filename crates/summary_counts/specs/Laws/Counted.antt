-- WHAT IS COUNTED FROM THE BYTES IS THE BOARD'S: on a state that is a ledger's, the counts of the slot bytes and of the rule heads are the figures of the definition,
-- whose open slots are the viable ones (model Laws.Filter, found_viable), and whose rules have one column at most on a call. Assumes nothing.
use Rattle.std.specs.Prelude.{◌≡◌, refl, Bool, true, false, cond, List, ◌⊎◌, ℕ, zero, suc, ◌+◌, ◌-◌, ◌*◌, ◌/◌, ◌%◌, ◌<◌, ◌≤◌, length, get_or, T, eqb, ltb}
use Rattle.std.proofs.Common.{sym, ap, ap₂, ◌∙◌, inl, inr, ⊎_elim, arith, eqb→eq, ltb→lt, lt→ltb, le-leb}
use Rattle.std.proofs.Math.ListN.{get_or-eq_default}
use Rattle.std.proofs.lemmas.Bool.{lt-leb}
use Rattle.layout.specs.declared.summary.Summary.{Summary}
use Rattle.model.specs.Board.{call_at, cancelled_on?, slots_on}
use Rattle.model.specs.Tests.{some?, count_below}
use Rattle.model.specs.Filter.{in?, open_of}
use Rattle.model.specs.Ledger.{Ledger, LedgerShape}
use Rattle.model.specs.Report.{open?, closed?}
use Rattle.model.specs.Representation.{rule_at, Represents}
use Rattle.model.specs.Summary.{rule_on?, record_of, Current}
use Rattle.model.proofs.Laws.Tests.{and→, →and, some→, →some, →eqb, same_test, count_same, count_bound, count_once, count_rest, count_row, has→, →has}
use Rattle.model.proofs.Laws.Filter.{found_viable}
use Rattle.model.proofs.Laws.Reports.{open_in}
use Rattle.model.proofs.Laws.Cancelled.{first_held}
use Rattle.model.proofs.Laws.Heads.{no_call_lem}
use Rattle.model.proofs.Laws.Summary.{column_in, calls_differ, absent_zero}
use Rattle.tables.specs.Laws.Facts.{lt_or_le}
use Rattle.layout.specs.Places.{call_of}
use Rattle.layout.specs.Memory.{State}
use Rattle.layout.specs.Summary.{no_summary}
use Rattle.layout.specs.Sizes.{records_length}
use Rattle.summary_counts.specs.Counted.{slots_left, figures_of, column_on?, columns_on, counted_record, Counted}

-- records with the same figures
figures_same : (o s r o' s' r' : ℕ) → o ≡ o' → s ≡ s' → r ≡ r'
    → ◌≡◌ {A = Summary} (record { «open» = o; struck = s; rules = r }) (record { «open» = o'; struck = s'; rules = r' })
figures_same o s r o' s' r' eo es er = cc

-- a count by fours, where each four are one number's
count_fours : (n : ℕ) (f : ℕ → ℕ → Bool) (g : ℕ → Bool) → ((p : ℕ) → p < n → count_below 4 (f p) ≡ cond (g p) 1 0)
    → count_below (4 * n) (λ i. f (i / 4) (i % 4)) ≡ count_below n g
count_fours zero f g is = refl
count_fours (suc n) f g is =
    let size : 4 * suc n ≡ 4 * n + 4 = omega arith in
    ap (λ (m : ℕ). count_below m (λ i. f (i / 4) (i % 4))) size
    ∙ count_row 4 n f (omega arith)
    ∙ ap₂ (λ (a b : ℕ). a + b) (count_fours n f g (λ p h. is p (omega arith))) (is n (omega arith))

-- THE BYTES' FIGURES ARE THE BOARD'S
module _ (L : Ledger) (s : State) (shape : LedgerShape L) (rep : Represents L s) where
  -- column k of rule p, as the heads have it, is on call c
  abbrev head_on? : ℕ → ℕ → ℕ → Bool
  head_on? c p k = column_on? s.value.heads.scope p (get_or s.value.heads.arity p 0) c k

  call_held : (p k : ℕ) → p < 64 → k < length (rule_at L.board p).scope → call_of s.value.heads.scope p k ≡ call_at (rule_at L.board p) k
  call_held p k lp lk =
      let there = column_in L.board shape.board p k lk in
      let on = there.1 in
      let few = shape.board.calls in
      let byte = rep.stored.headed.scope p k lp there.0 in
      omega arith

  column_held : (c p k : ℕ) → p < 64 → T (head_on? c p k) → (k < length (rule_at L.board p).scope) × (call_at (rule_at L.board p) k ≡ c)
  column_held c p k lp t =
      let both = and→ (ltb k (get_or s.value.heads.arity p 0)) (eqb (call_of s.value.heads.scope p k) c) t in
      let arity = rep.stored.headed.arity p lp in
      let lk : k < length (rule_at L.board p).scope = omega (arith, ltb→lt k (get_or s.value.heads.arity p 0) both.0) in
      (lk, sym (call_held p k lp lk) ∙ eqb→eq (call_of s.value.heads.scope p k) c both.1)

  -- a rule's calls differ, so that it has one column on a call, or none
  rule_held : (c p : ℕ) → p < 64 → count_below 4 (head_on? c p) ≡ cond (rule_on? L.board c p) 1 0
  rule_held c p lp =
      count_once 4 (head_on? c p)
      (λ i j l h t u.
      let first = column_held c p i lp t in
      let other = column_held c p j lp u in
      calls_differ L.board shape.board p i j l other.0 (first.1 ∙ sym other.1))
      ∙ ap (λ (b : Bool). cond b 1 0)
      (same_test (some? 4 (head_on? c p)) (rule_on? L.board c p)
      (λ t.
      let found = some→ 4 (head_on? c p) t in
      let held = column_held c p found.0 lp found.2 in
      →has 255 (rule_at L.board p).scope c found.0 held.0 held.1)
      (λ t.
      let found = has→ 255 (rule_at L.board p).scope c t in
      let k = found.0 in
      let lk = found.1 in
      let arity = rep.stored.headed.arity p lp in
      →some 4 (head_on? c p) k (column_in L.board shape.board p k lk).0
      (→and (ltb k (get_or s.value.heads.arity p 0)) (eqb (call_of s.value.heads.scope p k) c)
      (lt→ltb k (get_or s.value.heads.arity p 0) (omega arith))
      (→eqb (call_of s.value.heads.scope p k) c (call_held p k lp lk ∙ found.2)))))

  rules_held : (c : ℕ) → columns_on s.value.heads 256 c % 256 ≡ count_below 64 (rule_on? L.board c)
  rules_held c =
      byte (columns_on s.value.heads 256 c) (count_below 64 (rule_on? L.board c))
      (count_fours 64 (head_on? c) (rule_on? L.board c) (rule_held c))
      (count_bound 64 (rule_on? L.board c))
    where
      byte : (m n : ℕ) → m ≡ n → n ≤ 64 → m % 256 ≡ n
      byte m n e h = omega arith

  opened_held : (c : ℕ) → c < records_length → count_below 32 (open? s.slots c) ≡ count_below 32 (in? (open_of L.board) c)
  opened_held c lc = count_same 32 (open? s.slots c) (in? (open_of L.board) c) (λ t lt. open_in L s rep c t lc lt)

  -- the bytes leave a call the slots that it has on the board
  left_held : (c : ℕ) → c < records_length → slots_left s.slots c (get_or s.value.heads.counts c 0) ≡ slots_on L.board c
  left_held c lc = rw (first_held L.board shape.board rep.stored c lc, rep.stored.headed.counts c lc) refl

  slots_few : (c : ℕ) → slots_on L.board c ≤ 32
  slots_few c = kept (cancelled_on? L.board c) (few (lt_or_le c (length L.board.counts)))
    where
      kept : (b : Bool) → get_or L.board.counts c 0 ≤ 32 → cond b 0 (get_or L.board.counts c 0) ≤ 32
      kept true h = omega arith
      kept false h = h

      few : (c < length L.board.counts) ⊎ (length L.board.counts ≤ c) → get_or L.board.counts c 0 ≤ 32
      few (inl lt) = (shape.board.counts c lt).1
      few (inr le) = omega (arith, get_or-eq_default L.board.counts 0 le)

  -- what is not open of these slots is struck
  struck_held : (c : ℕ) → c < records_length
      → slots_left s.slots c (get_or s.value.heads.counts c 0) - count_below 32 (open? s.slots c) ≡ count_below 32 (closed? L.board (open_of L.board) c)
  struck_held c lc =
      left (slots_left s.slots c (get_or s.value.heads.counts c 0)) (count_below 32 (open? s.slots c)) (slots_on L.board c) (count_below 32 (in? (open_of L.board) c))
      (count_below 32 (closed? L.board (open_of L.board) c))
      (left_held c lc) (opened_held c lc)
      (count_rest 32 (slots_on L.board c) (in? (open_of L.board) c) (slots_few c)
      (λ t h. let v = (found_viable L.board c t).0 h in v.self.slots c t v.has))
    where
      left : (a o n i m : ℕ) → a ≡ n → o ≡ i → m + i ≡ n → a - o ≡ m
      left a o n i m ea eo e = omega arith

  counted_is : (c : ℕ) → c < records_length → counted_record s.value.heads s.slots c ≡ record_of L.board c
  counted_is c lc =
      ap (λ (b : Bool). cond b no_summary (figures_of s.slots c (get_or s.value.heads.counts c 0) (columns_on s.value.heads 256 c % 256)))
      (no_call_lem L.board shape.board s.value.heads rep.stored.headed c)
      ∙ ⊎_elim
      (λ lt.
      rw (lt-leb (length L.board.counts) c lt)
      (figures_same (count_below 32 (open? s.slots c)) (slots_left s.slots c (get_or s.value.heads.counts c 0) - count_below 32 (open? s.slots c)) (columns_on s.value.heads 256 c % 256)
      (count_below 32 (in? (open_of L.board) c)) (count_below 32 (closed? L.board (open_of L.board) c)) (count_below 64 (rule_on? L.board c))
      (opened_held c lc) (struck_held c lc) (rules_held c)))
      (λ le. rw (le-leb (length L.board.counts) c le) (sym (absent_zero L.board shape.board c le lc)))
      (lt_or_le c (length L.board.counts))

pub counted_current : (L : Ledger) (s : State) → LedgerShape L → Represents L s → (t : List Summary) → Counted s.value.heads s.slots t → Current L.board t
counted_current L s shape rep t counted = record { size = counted.size; each = λ c lc. counted.each c lc ∙ counted_is L s shape rep c lc }
