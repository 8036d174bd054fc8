-- ON A STATE THAT IS A LEDGER'S the first check over the bytes that holds is the ledger's first condition. Assumes nothing.
use Rattle.std.specs.Prelude.{◌≡◌, refl, Bool, false, List, ℕ, ◌+◌, ◌*◌, ◌%◌, ◌<◌, ◌≤◌, length, get_or, eqb, ltb, leb}
use Rattle.std.proofs.Common.{ap, ◌∙◌, ⊎_elim, arith, ne_eqb, le-leb, ltb-false}
use Rattle.std.proofs.Math.Option.{Option, none, some}
use Rattle.std.proofs.lemmas.Bool.{lt-leb}
use Rattle.layout.specs.declared.value.Heads.{Heads}
use Rattle.layout.specs.declared.value.RuleData.{RuleData}
use Rattle.model.specs.declared.command.Head.{Head}
use Rattle.model.specs.declared.command.Row.{Row}
use Rattle.model.specs.declared.command.Command.TheVariants as kind
use Rattle.model.specs.Board.{Rule, Board, call_at, slot_at, cancelled_on?, GoodRule, Shape}
use Rattle.model.specs.Tests.{some?, every?, is_none}
use Rattle.model.specs.Commands.{scope_of, slots_of}
use Rattle.model.specs.Ledger.{NumberedRule, Ledger, LedgerShape, draft_or, bad_spare?, kind_conditions}
use Rattle.model.specs.Representation.{Headed, RuleHeld, Stored}
use Rattle.model.proofs.Laws.Cancelled.{cancelled_held}
use Rattle.model.proofs.Laws.Tests.{or_false}
use Rattle.model.proofs.Laws.Refusals.{Agree, none as no_more, next}
use Rattle.model.proofs.Laws.Heads.{no_call_lem, no_calls}
use Rattle.command_draft.specs.Fields.{off_board?, call_off_board?, call_cancelled?, call_twice?, bad_arity?, head_checks, capped_columns, capped_rows, slot_off?, slot_off_call?, same_row?, row_in_draft?, add_row_checks}
use Rattle.layout.specs.Places.{cancelled?}
use Rattle.model.proofs.Laws.Search.{some_same, every_same}
use Rattle.tables.specs.Laws.Facts.{lt_or_le}

pub arity_most : (n : ℕ) → bad_arity? n ≡ false → n ≤ 4
arity_most n e = ltb-false 4 n (or_false (ltb n 1) (ltb 4 n) e).1

none_capped : (n : ℕ) → bad_arity? n ≡ false → capped_columns n ≡ n
none_capped n e = omega (arith, arity_most n e)

-- a call is off the board exactly where it has no slots
pub off_board_same : (B : Board) → Shape B → (heads : Heads) → Headed B heads → (x : ℕ) → off_board? heads.counts x ≡ leb (length B.counts) x
off_board_same B shape heads headed x =
    ⊎_elim
    (λ h. rw (lt-leb 32 x h) (no_call_lem B shape heads headed x))
    (λ h. rw (le-leb 32 x h, le-leb (length B.counts) x (omega (arith, shape.calls))) refl)
    (lt_or_le x 32)

-- KIND 2: where the arity is good no column is left out
pub head_checks_agree : (L : Ledger) → LedgerShape L → {heads : Heads} {rows killers slots : List ℕ} → Stored L.board heads rows killers slots → (h : Head) (ns : List ℕ)
    → Agree (head_checks heads.counts slots h) (kind_conditions L (kind.Head h) ns)
head_checks_agree L shape {heads} {rows} {killers} {slots} stored h ns =
    let B = L.board in
    let headed = stored.headed in
    next (no_calls B shape.board heads headed) (λ _. next refl (λ _. next refl (λ good.
    let whole = none_capped h.arity good in
    let scope = some_same h.arity (λ k. off_board? heads.counts (get_or (scope_of h) k 255)) (λ k. leb (length B.counts) (get_or (scope_of h) k 255))
    (λ k lk. off_board_same B shape.board heads headed (get_or (scope_of h) k 255)) in
    let cancelled = some_same h.arity (λ k. cancelled? slots (get_or (scope_of h) k 255)) (λ k. cancelled_on? B (get_or (scope_of h) k 255))
    (λ k lk. cancelled_held B shape.board stored (get_or (scope_of h) k 255)) in
    next (ap (call_off_board? heads.counts (scope_of h)) whole ∙ scope) (λ _.
    next (ap (call_cancelled? slots (scope_of h)) whole ∙ cancelled) (λ _.
    next (ap (call_twice? (scope_of h)) whole) (λ _.
    next (ap (λ (n : ℕ). bad_spare? n (scope_of h)) whole) (λ _. no_more)))))))

-- a draft is a rule that the board could have
abbrev GoodDraft : List ℕ → Option NumberedRule → Type 0
GoodDraft counts o = (d : NumberedRule) → o ≡ some d → (d.number < 64) × GoodRule counts d.rule

-- the draft's rule, the empty one where there is no draft, has the limits of a good one
pub record Limits (counts : List ℕ) (r : Rule) : Type 0 where
  pub columns : length r.scope ≤ 4
  pub scope : (k : ℕ) → k < length r.scope → call_at r k < length counts
  pub rows : length r.rows ≤ 64

pub draft_limits : (L : Ledger) → LedgerShape L → Limits L.board.counts (draft_or L.draft).rule
draft_limits L shape = go L.draft shape.draft
  where
    go : (o : Option NumberedRule) → GoodDraft L.board.counts o → Limits L.board.counts (draft_or o).rule
    go none good = record { columns = omega arith; scope = λ k h. absurd (omega arith); rows = omega arith }
    go (some d) good = let g = (good d refl).1 in record { columns = g.most; scope = g.scope; rows = g.few }

-- there is a draft exactly where the arity is not 0
no_draft_same : (L : Ledger) → LedgerShape L → eqb (length (draft_or L.draft).rule.scope) 0 ≡ is_none L.draft
no_draft_same L shape = go L.draft shape.draft
  where
    go : (o : Option NumberedRule) → GoodDraft L.board.counts o → eqb (length (draft_or o).rule.scope) 0 ≡ is_none o
    go none good = refl
    go (some d) good = let least = (good d refl).1.least in ne_eqb (length d.rule.scope) 0 (λ e. omega arith)

-- KIND 3: a ledger's draft has no more columns and rows than are looked at
module _ (L : Ledger) (shape : LedgerShape L) (heads : Heads) (headed : Headed L.board heads) (rule : RuleData)
    (held : RuleHeld (draft_or L.draft).rule rule) (w : Row) where
  abbrev r : Rule
  r = (draft_or L.draft).rule

  -- the ledger's tests of column k, and of column k of row v
  abbrev off? : ℕ → Bool
  off? k = leb (get_or L.board.counts (call_at r k) 0) (get_or (slots_of w) k 255)

  abbrev alike? : ℕ → ℕ → Bool
  alike? v k = eqb (slot_at r v k) (get_or (slots_of w) k 255)

  limits : Limits L.board.counts r
  limits = draft_limits L shape

  columns_same : capped_columns rule.arity ≡ length r.scope
  columns_same = omega (arith, held.arity, limits.columns)

  length_same : capped_rows rule.length ≡ length r.rows
  length_same = omega (arith, held.length_is, limits.rows)

  slots_same : slot_off_call? heads.counts rule.scope (slots_of w) (capped_columns rule.arity)
      ≡ some? (length r.scope) off?
  slots_same =
      rw columns_same
      (some_same (length r.scope) (slot_off? heads.counts rule.scope (slots_of w)) off?
      (λ k h.
      let below = limits.scope k h in
      let call : get_or rule.scope k 0 % 32 ≡ call_at r k = omega (arith, held.scope k (omega (arith, limits.columns)), shape.board.calls) in
      rw (call, headed.counts (call_at r k) (omega (arith, shape.board.calls))) refl))

  rows_same : row_in_draft? rule.rows (slots_of w) (capped_columns rule.arity) (capped_rows rule.length)
      ≡ some? (length r.rows) (λ v. every? (length r.scope) (alike? v))
  rows_same =
      rw (columns_same, length_same)
      (some_same (length r.rows) (same_row? rule.rows (slots_of w) (length r.scope)) (λ v. every? (length r.scope) (alike? v))
      (λ v lv.
      every_same (length r.scope) (λ k. eqb (get_or rule.rows (4 * v + k) 0) (get_or (slots_of w) k 255)) (alike? v)
      (λ k lk. rw (held.rows v k (omega (arith, limits.rows)) (omega (arith, limits.columns))) refl)))

  pub row_checks_agree : (ns : List ℕ) → Agree (add_row_checks heads.counts rule w) (kind_conditions L (kind.Row w) ns)
  row_checks_agree ns =
      next (no_calls L.board shape.board heads headed) (λ _.
      next (ap (λ (n : ℕ). eqb n 0) held.arity ∙ no_draft_same L shape) (λ _.
      next (ap (leb 64) held.length_is) (λ _.
      next slots_same (λ _.
      next (ap (λ (n : ℕ). bad_spare? n (slots_of w)) columns_same) (λ _.
      next rows_same (λ _. no_more))))))
