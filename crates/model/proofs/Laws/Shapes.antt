-- EVERY COMMAND KEEPS THE LEDGER'S SHAPE, whatever its bytes, refused or accepted: what a rule of good shape asks is what the conditions check. Assumes nothing.
use Rattle.std.specs.Prelude.{◌≡◌, refl, Bool, true, false, not, ◌&&◌, ◌||◌, cond, List, [], ◌∷◌, ◌++◌, ◌≢◌, ◌⊎◌, ℕ, zero, suc, ◌<◌, ◌≤◌, ◌+◌, length, get_or, take, drop, set, replicate, eqb, ltb, leb}
use Rattle.std.proofs.Common.{sym, ap, ◌∙◌, true≢false, inl, inr, ⊎_elim, arith, eq-or-lt_of_le, le_of_suc-le-suc, length-set, length-take, length-append, get_or-set_same, get_or-set_other, get_or-take, length-take-le, eqb→eq, ltb-false, leb-false, eqb-true, eq-eqb}
use Rattle.std.proofs.Math.Bool.{and-eq-true_iff}
use Rattle.std.proofs.Math.Option.{Option, none, some}
use Rattle.std.proofs.Math.Decide.{ℕ_discrete}
use Rattle.std.proofs.Math.ListN.{get_or-append}
use Rattle.std.proofs.Math.Seq.{get_or-append_seam}
use Rattle.std.proofs.lemmas.Bool.{eqb-false, not-false}
use Rattle.model.specs.declared.command.Head.{Head}
use Rattle.model.specs.declared.command.Row.{Row}
use Rattle.model.specs.declared.command.GapRule.{GapRule}
use Rattle.model.specs.declared.command.Command.{Command}
use Rattle.model.specs.declared.command.Command.TheVariants as kind
use Rattle.model.specs.declared.command.Read.{Read}
use Rattle.model.specs.declared.command.Read.TheVariants as found
use Rattle.model.specs.Board.{Rule, Board, call_at, slot_at, cancelled_on?, InForce, GoodRule, Shape}
use Rattle.model.specs.Tests.{some?, every?, is_none}
use Rattle.model.specs.Commands.{is_kind, body_size, command_at, without, read_at, scope_of, slots_of}
use Rattle.model.specs.Ledger.{NumberedRule, Ledger, LedgerShape, Member, bare, none_kept, fresh, kept_under, kept_or, draft_or, lent_conditions, kind_conditions, form_conditions, own_conditions, refusal, up_to_zero, with_rule, cancel_call, effect, obey, step, run, lengths}
use Rattle.model.specs.Gaps.{rule_of_gap}
use Rattle.model.proofs.Laws.Gaps.{gap_good}
use Rattle.model.proofs.Laws.Tests.{or→, or_false, none_passes, →every, T→, →T, none_some}
use Rattle.layout.specs.Sizes.{Lent, CommandLent, bad_lent?, bad_buffers?, bad_table?, killers_length, rows_length, slots_length, marks_length, records_length}
use Rattle.tables.specs.Laws.Facts.{true_false}
use Rattle.model.specs.Refusals.{first_of, condition_of}
use Rattle.model.specs.Numbers as refused
use Rattle.model.specs.declared.refusal.Refusal.TheVariants as kind_of_refusal
use Rattle.model.proofs.Laws.Refusals.{none_holds, rest_passes}

-- the lengths, where they are not refused
pub lent_sizes : (lent : Lent) → bad_lent? lent ≡ false → (lent.rows ≡ rows_length) × (lent.killers ≡ killers_length) × (lent.slots ≡ slots_length)
lent_sizes lent e =
    let all = (and-eq-true_iff (eqb lent.rows rows_length && eqb lent.killers killers_length) (eqb lent.slots slots_length)).0 (not-false _ e) in
    let two = (and-eq-true_iff (eqb lent.rows rows_length) (eqb lent.killers killers_length)).0 all.0 in
    (eqb-true lent.rows rows_length two.0, eqb-true lent.killers killers_length two.1, eqb-true lent.slots slots_length all.1)

-- and those of all that is lent with a command
pub marks_size : (lent : Lent) (n : ℕ) → bad_buffers? lent n ≡ false → (bad_lent? lent ≡ false) × (n ≡ marks_length)
marks_size lent n e =
    let apart = or_false (bad_lent? lent) (not (eqb n marks_length)) e in
    (apart.0, eqb-true n marks_length (not-false _ apart.1))

pub lent_right : (lent : CommandLent) → bad_buffers? lent.buffers lent.marks ≡ false → bad_table? lent ≡ false → lent ≡ lengths
lent_right lent good table =
    let apart = marks_size lent.buffers lent.marks good in
    let sizes = lent_sizes lent.buffers apart.0 in
    let marks = apart.1 in
    let records = eqb-true lent.table records_length (not-false _ table) in
    let all : ◌≡◌ {A = CommandLent}
    (record {
      buffers = record { rows = lent.buffers.rows; killers = lent.buffers.killers; slots = lent.buffers.slots };
      marks = lent.marks;
      table = lent.table;
    }) lengths = cc in
    all

-- a board without rules
pub none_there : (n p : ℕ) → ◌≡◌ {A = Option Rule} (get_or (replicate n none) p none) none
none_there zero p = refl
none_there (suc n) zero = refl
none_there (suc n) (suc p) = none_there n p

pub bare_none : (ns : List ℕ) (p : ℕ) (r : Rule) → InForce (bare ns) p r → ⊥
bare_none ns p r f = none_some (sym (none_there 64 p) ∙ f)

pub bare_shape : (ns : List ℕ) → length ns ≤ 32 → ((c : ℕ) → c < length ns → (0 < get_or ns c 0) × (get_or ns c 0 ≤ 32)) → Shape (bare ns)
bare_shape ns few each = record { calls = few; counts = each; numbers = refl; rules = λ p r f. absurd (bare_none ns p r f); cancelled = λ c g. absurd g }

-- a board of good shape with a good rule under a number, or none there
pub shape_with : (B : Board) (p : ℕ) (o : Option Rule) → Shape B → p < 64 → ((r : Rule) → o ≡ some r → GoodRule B.counts r) → Shape (with_rule B p o)
shape_with B p o shape lp good =
    record {
      calls = shape.calls;
      counts = shape.counts;
      numbers = length-set B.rules p o ∙ shape.numbers;
      rules = λ q r f. go q r f (ℕ_discrete q p);
      cancelled = shape.cancelled;
    }
  where
    go : (q : ℕ) (r : Rule) → get_or (set B.rules p o) q none ≡ some r → Dec (q ≡ p) → GoodRule B.counts r
    go q r f (yes h) = good r (sym (get_or-set_same B.rules p o none (omega (arith, shape.numbers))) ∙ (rw h at f))
    go q r f (no h) = shape.rules q r (sym (get_or-set_other B.rules p q o none h) ∙ f)

-- and with one of its calls cancelled
pub shape_cancelled : (B : Board) → Shape B → (c : ℕ) → c < length B.counts → Shape (cancel_call B c)
shape_cancelled B shape c there =
    record {
      calls = shape.calls;
      counts = shape.counts;
      numbers = shape.numbers;
      rules = shape.rules;
      cancelled = λ d g. ⊎_elim (λ e. rw (eqb→eq c d e) at there) (shape.cancelled d) (or→ (eqb c d) (cancelled_on? B d) g);
    }

-- what holds of each row and of one more holds of each with that one at the end
snoc_all : (P : List ℕ → Type 0) (rows : List (List ℕ)) (x : List ℕ) → ((w : ℕ) → w < length rows → P (get_or rows w [])) → P x
    → (w : ℕ) → w < length (rows ++ (x ∷ [])) → P (get_or (rows ++ (x ∷ [])) w [])
snoc_all P [] x old new zero h = new
snoc_all P [] x old new (suc w) h = absurd (omega arith)
snoc_all P (y ∷ rows) x old new zero h = old 0 (omega arith)
snoc_all P (y ∷ rows) x old new (suc w) h = snoc_all P rows x (λ v g. old (suc v) (omega arith)) new w (le_of_suc-le-suc h)

snoc_apart : (rows : List (List ℕ)) (x : List ℕ) → ((v w : ℕ) → v < w → w < length rows → get_or rows v [] ≢ get_or rows w []) → ((v : ℕ) → v < length rows → get_or rows v [] ≢ x)
    → (v w : ℕ) → v < w → w < length (rows ++ (x ∷ [])) → get_or (rows ++ (x ∷ [])) v [] ≢ get_or (rows ++ (x ∷ [])) w []
snoc_apart rows x old new v w vw h =
    let l : w < length rows + 1 = omega (arith, length-append rows (x ∷ [])) in
    let hv : v < length rows = omega arith in
    let ev : get_or (rows ++ (x ∷ [])) v [] ≡ get_or rows v [] = get_or-append rows (x ∷ []) [] v hv in
    go (eq-or-lt_of_le (le_of_suc-le-suc (omega arith))) hv ev
  where
    go : (w ≡ length rows) ⊎ (w < length rows) → v < length rows → get_or (rows ++ (x ∷ [])) v [] ≡ get_or rows v [] → get_or (rows ++ (x ∷ [])) v [] ≢ get_or (rows ++ (x ∷ [])) w []
    go (inl e) hv ev q = new v hv (sym ev ∙ q ∙ ap (λ (i : ℕ). get_or (rows ++ (x ∷ [])) i []) e ∙ get_or-append_seam rows x [] [])
    go (inr h) hv ev q = old v w vw h (sym ev ∙ q ∙ get_or-append rows (x ∷ []) [] w h)

-- the counts up to the first 0
short : (ns : List ℕ) → length (up_to_zero ns) ≤ length ns
short [] = omega arith
short (zero ∷ ns) = omega arith
short (suc n ∷ ns) = omega (arith, short ns)

in_limits : (ns : List ℕ) → ((i : ℕ) → i < length ns → get_or ns i 0 ≤ 32) → (c : ℕ) → c < length (up_to_zero ns) → (0 < get_or (up_to_zero ns) c 0) × (get_or (up_to_zero ns) c 0 ≤ 32)
in_limits [] g c h = absurd (omega arith)
in_limits (zero ∷ ns) g c h = absurd (omega arith)
in_limits (suc n ∷ ns) g zero h = (omega arith, g 0 (omega arith))
in_limits (suc n ∷ ns) g (suc c) h = in_limits ns (λ i k. g (suc i) (omega arith)) c (le_of_suc-le-suc h)

-- no board is kept
none_marked : (counts : List ℕ) (name : ℕ) (B : Board) → ◌≡◌ {A = Option Board} (get_or none_kept name none) (some B) → Shape B × (B.counts ≡ counts)
none_marked counts zero B e = none_some e
none_marked counts (suc zero) B e = none_some e
none_marked counts (suc (suc name)) B e = none_some e

-- none of a kind's conditions holds, whatever its number
abbrev Allowed : Ledger → Command → List ℕ → Type 0
Allowed L c ns = (n : ℕ) → condition_of n (kind_conditions L c ns) ≡ false

-- THE KINDS, each accepted
module _ (L : Ledger) (shape : LedgerShape L) where
  retract_shape : (n : ℕ) (ns : List ℕ) → Allowed L (kind.Retract n) ns → LedgerShape (effect L (kind.Retract n) ns)
  retract_shape n ns good =
      record {
        board = shape_with L.board n none shape.board (omega (arith, ltb-false 63 n (good refused.bad_number))) (λ r e. none_some e);
        draft = shape.draft;
        names = shape.names;
        marks = shape.marks;
      }

  post_shape : (ns : List ℕ) → Allowed L kind.Post ns → LedgerShape (effect L kind.Post ns)
  post_shape ns good = go L.draft refl (good refused.no_draft)
    where
      go : (o : Option NumberedRule) → L.draft ≡ o → is_none o ≡ false
          → LedgerShape (record { board = with_rule L.board (draft_or o).number (some (draft_or o).rule); draft = none; marks = L.marks })
      go none e i = absurd (true≢false i)
      go (some d) e i =
          let g = shape.draft d e in
          record {
            board = shape_with L.board d.number (some d.rule) shape.board g.0 (λ r h. let z : d.rule ≡ r = cc in rw z at g.1);
            draft = λ x h. none_some h;
            names = shape.names;
            marks = shape.marks;
          }

  board_shape : (ns : List ℕ) → length ns ≤ 32 → Allowed L kind.Board ns → LedgerShape (effect L kind.Board ns)
  board_shape ns most good =
      let e = (or_false (eqb (get_or ns 0 0) 0 || some? (length ns) (λ i. ltb 32 (get_or ns i 0)))
      (some? (length ns) (λ j. not (eqb (get_or ns j 0) 0) && some? j (λ i. eqb (get_or ns i 0) 0))) (good refused.bad_counts)).0 in
      let f = (or_false (eqb (get_or ns 0 0) 0) (some? (length ns) (λ i. ltb 32 (get_or ns i 0))) e).1 in
      record {
        board = bare_shape (up_to_zero ns) (omega (arith, short ns))
            (in_limits ns (λ i h. ltb-false 32 (get_or ns i 0) (none_passes (length ns) (λ i. ltb 32 (get_or ns i 0)) f i h)));
        draft = λ d h. none_some h;
        names = refl;
        marks = none_marked (up_to_zero ns);
      }

  head_good : (h : Head) (ns : List ℕ) → Allowed L (kind.Head h) ns → GoodRule L.board.counts (record { scope = take h.arity (scope_of h); rows = [] })
  head_good h ns good =
      let a = h.arity in
      let cs = scope_of h in
      let limits = or_false (ltb a 1) (ltb 4 a) (good refused.bad_arity) in
      let least : 1 ≤ a = ltb-false a 1 limits.0 in
      let most : a ≤ 4 = ltb-false 4 a limits.1 in
      let len : length (take a cs) ≡ a = length-take-le a cs (omega arith) in
      record {
        most = omega arith;
        least = omega arith;
        scope = λ k lk.
            let below : k < a = omega arith in
            rw (get_or-take a cs k 255 below)
            (leb-false (length L.board.counts) (get_or cs k 255) (none_passes a (λ k. leb (length L.board.counts) (get_or cs k 255)) (good refused.call_off_board) k below));
        apart = λ j k jk lk.
            let below : k < a = omega arith in
            rw (get_or-take a cs k 255 below, get_or-take a cs j 255 (omega arith))
            (eqb-false (get_or cs j 255) (get_or cs k 255)
            (none_passes k (λ j. eqb (get_or cs j 255) (get_or cs k 255)) (none_passes a (λ k. some? k (λ j. eqb (get_or cs j 255) (get_or cs k 255))) (good refused.call_twice) k below) j jk));
        few = omega arith;
        width = λ w h. absurd (omega arith);
        slots = λ w k h. absurd (omega arith);
        rows = λ v w vw h. absurd (omega arith);
      }

  head_shape : (h : Head) (ns : List ℕ) → Allowed L (kind.Head h) ns → LedgerShape (effect L (kind.Head h) ns)
  head_shape h ns good =
      record {
        board = shape.board;
        draft = λ d e.
            let g : record { number = h.number; rule = record { scope = take h.arity (scope_of h); rows = [] } } ≡ d = cc in
            rw (← g) (omega (arith, ltb-false 63 h.number (good refused.bad_number)), head_good h ns good);
        names = shape.names;
        marks = shape.marks;
      }

  -- a draft with one row more
  row_good : (d : NumberedRule) (x : Row) (ns : List ℕ) → L.draft ≡ some d → Allowed L (kind.Row x) ns
      → GoodRule L.board.counts (record { scope = d.rule.scope; rows = d.rule.rows ++ (take (length d.rule.scope) (slots_of x) ∷ []) })
  row_good d x ns is good =
      let r = d.rule in
      let a = length r.scope in
      let ss = slots_of x in
      let g = (shape.draft d is).1 in
      let room : length r.rows < 64 = leb-false 64 (length r.rows) (rw is at (good refused.draft_full)) in
      let on : some? a (λ k. leb (get_or L.board.counts (call_at r k) 0) (get_or ss k 255)) ≡ false = rw is at (good refused.slot_off_call) in
      let new : some? (length r.rows) (λ v. every? a (λ k. eqb (slot_at r v k) (get_or ss k 255))) ≡ false = rw is at (good refused.row_twice) in
      record {
        most = g.most;
        least = g.least;
        scope = g.scope;
        apart = g.apart;
        few = omega (arith, length-append r.rows (take a ss ∷ []));
        width = snoc_all (λ (x : List ℕ). length x ≡ a) r.rows (take a ss) g.width (length-take-le a ss (omega (arith, g.most)));
        slots = λ w k h h'.
            snoc_all (λ (x : List ℕ). get_or x k 255 < get_or L.board.counts (call_at r k) 0) r.rows (take a ss) (λ w h. g.slots w k h h')
            (rw (get_or-take a ss k 255 h')
            (leb-false (get_or L.board.counts (call_at r k) 0) (get_or ss k 255) (none_passes a (λ k. leb (get_or L.board.counts (call_at r k) 0) (get_or ss k 255)) on k h')))
            w h;
        rows = snoc_apart r.rows (take a ss) g.rows
            (λ v h same.
            absurd (true_false (T→ (every? a (λ k. eqb (slot_at r v k) (get_or ss k 255)))
            (→every a (λ k. eqb (slot_at r v k) (get_or ss k 255)) (λ k h'. →T (eqb (slot_at r v k) (get_or ss k 255)) (eq-eqb (slot_at r v k) (get_or ss k 255) (rw same (get_or-take a ss k 255 h'))))))
            (none_passes (length r.rows) (λ v. every? a (λ k. eqb (slot_at r v k) (get_or ss k 255))) new v h)));
      }

  row_shape : (x : Row) (ns : List ℕ) → Allowed L (kind.Row x) ns → LedgerShape (effect L (kind.Row x) ns)
  row_shape x ns good = go L.draft refl (good refused.no_draft)
    where
      grown : Option NumberedRule → NumberedRule
      grown o = record { number = (draft_or o).number; rule = record { scope = (draft_or o).rule.scope; rows = (draft_or o).rule.rows ++ (take (length (draft_or o).rule.scope) (slots_of x) ∷ []) } }

      go : (o : Option NumberedRule) → L.draft ≡ o → is_none o ≡ false → LedgerShape (record { board = L.board; draft = some (grown o); marks = L.marks })
      go none e i = absurd (true≢false i)
      go (some d) e i =
          record { board = shape.board; draft = λ d' h. let g : grown (some d) ≡ d' = cc in rw (← g) ((shape.draft d e).0, row_good d x ns e good); names = shape.names; marks = shape.marks }

  gap_shape : (f : GapRule) (ns : List ℕ) → Allowed L (kind.Gap f) ns → LedgerShape (effect L (kind.Gap f) ns)
  gap_shape f ns good =
      let counts = L.board.counts in
      let on = or_false (leb (length counts) f.first) (leb (length counts) f.second) (good refused.call_off_board) in
      let rule = gap_good counts f (leb-false (length counts) f.first on.0) (leb-false (length counts) f.second on.1)
      (eqb-false f.first f.second (good refused.call_twice)) (ltb-false 64 (length (rule_of_gap counts f).rows) (good refused.too_many_pairs)) in
      record {
        board = shape.board;
        draft = λ d e.
            let g : record { number = f.number; rule = rule_of_gap counts f } ≡ d = cc in
            rw (← g) (omega (arith, ltb-false 63 f.number (good refused.bad_number)), rule);
        names = shape.names;
        marks = shape.marks;
      }

  -- a board that is kept, and one that is brought back
  keep_shape : (name : ℕ) (ns : List ℕ) → Allowed L (kind.Keep name) ns → LedgerShape (effect L (kind.Keep name) ns)
  keep_shape name ns good =
      record {
        board = shape.board;
        draft = shape.draft;
        names = length-set L.marks name (some L.board) ∙ shape.names;
        marks = λ other B e. go other B e (ℕ_discrete other name);
      }
    where
      small : name < length L.marks
      small = omega (arith, ltb-false 1 name (good refused.bad_name), shape.names)

      go : (other : ℕ) (B : Board) → get_or (set L.marks name (some L.board)) other none ≡ some B → Dec (other ≡ name) → Shape B × (B.counts ≡ L.board.counts)
      go other B e (yes same) =
          let z : some L.board ≡ some B = sym (get_or-set_same L.marks name (some L.board) none small) ∙ rw same at e in
          let b : L.board ≡ B = cc in
          rw (← b) (shape.board, refl)
      go other B e (no apart) = shape.marks other B (sym (get_or-set_other L.marks name other (some L.board) none apart) ∙ e)

  back_shape : (name : ℕ) (ns : List ℕ) → Allowed L (kind.Back name) ns → LedgerShape (effect L (kind.Back name) ns)
  back_shape name ns good = go (kept_under L name) refl (good refused.nothing_kept)
    where
      go : (o : Option Board) → kept_under L name ≡ o → is_none o ≡ false → LedgerShape (record { board = kept_or o; draft = none; marks = L.marks })
      go none e i = absurd (true≢false i)
      go (some B) e i =
          let own = shape.marks name B e in
          record {
            board = own.0;
            draft = λ d h. none_some h;
            names = shape.names;
            marks = λ other K k. let kept = shape.marks other K k in (kept.0, kept.1 ∙ sym own.1);
          }

  cancel_shape : (c : ℕ) (ns : List ℕ) → Allowed L (kind.Cancel c) ns → LedgerShape (effect L (kind.Cancel c) ns)
  cancel_shape c ns clear =
      record {
        board = shape_cancelled L.board shape.board c (leb-false (length L.board.counts) c (clear refused.no_call));
        draft = shape.draft;
        names = shape.names;
        marks = shape.marks;
      }

  -- a command that none of its own conditions refuses
  pub effect_shape : (c : Command) (ns : List ℕ) → length ns ≤ 32 → first_of (kind_conditions L c ns) ≡ 0 → LedgerShape (effect L c ns)
  effect_shape kind.Board ns most e = board_shape ns most (none_holds (kind_conditions L kind.Board ns) tt e)
  effect_shape (kind.Head h) ns most e = head_shape h ns (none_holds (kind_conditions L (kind.Head h) ns) tt e)
  effect_shape (kind.Row x) ns most e = row_shape x ns (none_holds (kind_conditions L (kind.Row x) ns) tt e)
  effect_shape kind.Post ns most e = post_shape ns (none_holds (kind_conditions L kind.Post ns) tt e)
  effect_shape (kind.Retract n) ns most e = retract_shape n ns (none_holds (kind_conditions L (kind.Retract n) ns) tt e)
  effect_shape (kind.Gap f) ns most e = gap_shape f ns (none_holds (kind_conditions L (kind.Gap f) ns) tt e)
  effect_shape (kind.Keep n) ns most e = keep_shape n ns (none_holds (kind_conditions L (kind.Keep n) ns) tt e)
  effect_shape (kind.Back n) ns most e = back_shape n ns (none_holds (kind_conditions L (kind.Back n) ns) tt e)
  effect_shape (kind.Cancel c) ns most e = cancel_shape c ns (none_holds (kind_conditions L (kind.Cancel c) ns) tt e)

-- the counts beside what is read are never more than 32
pub counts_most : (s : List ℕ) (at : ℕ) → length (read_at s at).counts ≤ 32
counts_most s at = go (leb (length s) at) (is_kind (get_or s at 0)) (leb (at + 1 + body_size (get_or s at 0)) (length s)) (eqb (get_or s at 0) 1)
  where
    taken : (b : Bool) → length (cond b (take 32 (drop (at + 1) s)) (replicate 32 0)) ≤ 32
    taken true = omega (arith, length-take 32 (drop (at + 1) s))
    taken false = omega arith

    go : (a b c d : Bool)
        → length (cond a (without found.End at)
        (cond b
        (cond c
        (record { read = found.Command (command_at s (get_or s at 0) (at + 1)); counts = cond d (take 32 (drop (at + 1) s)) (replicate 32 0); next = at + 1 + body_size (get_or s at 0) })
        (without (found.Refused (get_or s at 0) kind_of_refusal.BodyLength) at))
        (without (found.Refused (get_or s at 0) kind_of_refusal.UnknownKind) at))).counts ≤ 32
    go true b c d = omega arith
    go false true true d = taken d
    go false true false d = omega arith
    go false false c d = omega arith

-- EVERY COMMAND, from its bytes
pub shape_step : (L : Ledger) (lent : CommandLent) (bytes : List ℕ) → LedgerShape L → LedgerShape (step L lent bytes)
shape_step L lent bytes shape = go (read_at bytes 0).read (counts_most bytes 0) (refusal L lent bytes) refl
  where
    ns : List ℕ
    ns = (read_at bytes 0).counts

    own : Read → ℕ
    own r = first_of ((lent_conditions lent ++ form_conditions r (ltb (read_at bytes 0).next (length bytes))) ++ own_conditions L r ns)

    go : (r : Read) → length ns ≤ 32 → (n : ℕ) → own r ≡ n → LedgerShape (obey n L r ns)
    go (found.Command c) most zero e =
        effect_shape L shape c ns most
        (rest_passes (lent_conditions lent ++ form_conditions (found.Command c) (ltb (read_at bytes 0).next (length bytes))) (kind_conditions L c ns) tt e)
    go (found.Command c) most (suc n) e = shape
    go (found.Refused k m) most zero e = shape
    go (found.Refused k m) most (suc n) e = shape
    go found.End most zero e = shape
    go found.End most (suc n) e = shape

pub shape_fresh : LedgerShape fresh
shape_fresh = record { board = bare_shape [] (omega arith) (λ c h. absurd (omega arith)); draft = λ d h. none_some h; names = refl; marks = none_marked [] }

-- and every list of them
pub shape_run : (L : Ledger) (ms : List Member) → LedgerShape L → LedgerShape (run L ms)
shape_run L [] shape = shape
shape_run L (m ∷ ms) shape = shape_run (step L m.lent m.bytes) ms (shape_step L m.lent m.bytes shape)
