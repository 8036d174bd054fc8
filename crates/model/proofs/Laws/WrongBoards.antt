-- WHAT THE PROMISE TURNS AWAY. For each wrong board of SCOPE 10.3, for the wrong turns of SCOPE 9 that P3, P4 and P5 show, and for wrong tables: no state, table and
-- answer after a sample's commands meet both the promise and the wrong behaviour. Assumes nothing.
use Rattle.std.proofs.Math.Path.{◌≡◌, refl, sym, ap}
use Rattle.std.proofs.Common.{subst, ◌∙◌, true≢false, inl, inr, ⊎_elim, eqb→eq, ltb→lt, lt→ltb, T_not, ne_eqb}
use Rattle.std.specs.Prelude.{Bool, true, false, not, ◌&&◌, ◌||◌, ◌≢◌, ◌⊎◌, length, T, eqb, ltb, None, Result, Ok, Err}
use mathlib.Core.List.{List, [], ◌∷◌, map}
use Rattle.std.proofs.Math.Option.{Option, none, some}
use Prim.Native.Nat.{ℕ, zero, suc, ◌+◌, ◌≤◌, ◌<◌}
use native.Mathlib.Omega.{arith}
use Rattle.std.proofs.Math.ListN.{get_or}
use Rattle.std.proofs.Math.Dec.{lit<, not_T}
use Rattle.model.specs.declared.answer.Report.{Report}
use Rattle.model.specs.declared.refusal.Refusal.{Refusal}
use Rattle.model.specs.declared.answer.OpenSlots.{OpenSlots}
use Rattle.model.specs.Board.{Rule, Board, call_at, slot_at, OnBoard, InForce, active?, Active, Holds, Passing, Viable}
use Rattle.model.specs.Records.{Struck, Grounded, because}
use Rattle.model.specs.Changes.{CauseIs, ClosedFor}
use Rattle.model.specs.Tests.{every?, count_below, has, is_none}
use Rattle.model.specs.Filter.{in?, in_scope?, all?, open_of}
use Rattle.model.specs.Commands.{read_at}
use Rattle.model.specs.Ledger.{Ledger, LedgerShape, with_rule, refusal, obey, step, member, lengths}
use Rattle.model.specs.Report.{slot_count, open?, closed?, reopened_between, struck_beside, RetractTouched}
use Rattle.model.specs.Representation.{Stored, Represents, rule_or, rule_at}
use Rattle.model.specs.Summary.{rule_on?, record_of, Current}
use Rattle.model.specs.Promise.{Answer, Answered, ReportsOf, values_at, report_values}
use Rattle.model.specs.Questions.{mask_of, call_conditions, slots_values, SlotsPromise, support_conditions, SupportPromise}
use Rattle.model.specs.Samples.{Outcome, Sample, Right, retract_bytes, ledger_before, ledger_last, p1, p2, p3, p4_retract, p5, p6, c1}
use Rattle.model.proofs.Laws.Tests.{and→, →and, or→, every→}
use Rattle.model.proofs.Laws.Theory.{active_below, one_rule, numbered, grounded_out}
use Rattle.model.proofs.Laws.Change.{on_range}
use Rattle.model.proofs.Laws.Filter.{found_viable, within→, →on_call, all→}
use Rattle.model.proofs.Laws.Lists.{IsOf, is_lengths, promise_keeps, runs_represent}
use Rattle.model.proofs.Laws.Answers.{accepted_by}
use Rattle.model.proofs.Laws.Samples.{samples_right}
use Rattle.model.proofs.Laws.Masks.{mask_same}
use Rattle.model.proofs.Laws.Reports.{open_in, struck_closed, slots_most, struck_beside_lem, struck_between_lem, reopened_between_lem}
use Rattle.model.proofs.Laws.Touched.{retract_least, touched_most}
use Rattle.layout.specs.Places.{cause_of, killer_of}
use Rattle.layout.specs.Memory.{State, Whole, lent_of, lent_with}
use Rattle.layout.specs.declared.summary.Summary.{Summary}
use Rattle.layout.specs.Summary.{no_summary, no_records}
use Rattle.layout.specs.Sizes.{Lent, CommandLent, records_length}
use Rattle.model.specs.WrongBoards.{Last}
use Rattle.model.specs.Refusals.{first_of}

-- two tests that differ
abbrev differ : Bool → Bool → Bool
differ true b = not b
differ false b = b

differ_not : (a b : Bool) → T (differ a b) → a ≡ b → ⊥
differ_not true true t e = t
differ_not true false t e = true≢false e
differ_not false true t e = true≢false (sym e)
differ_not false false t e = t

-- a rule on calls 0 and 2
abbrev on_both : Board → Option Rule → Bool
on_both B none = false
on_both B (some r) = in_scope? B r 0 && in_scope? B r 2

-- where no rule is on both calls, a slot of call 0 and one of call 2 have two causes
two_causes : (B : Board) (cause killer : ℕ → ℕ → ℕ) {a b : ℕ} → T (all? (λ o. not (on_both B o)) B.rules) → Grounded B cause killer 0 a → Grounded B cause killer 2 b
    → cause 0 a ≡ cause 2 b → ⊥
two_causes B cause killer {a} {b} none-on-both (because r f o k g) (because r' f' o' k' g') same =
    let one : r' ≡ r = one_rule B (cause 0 a) (rw (← same) at f') f in
    let out : T (not (on_both B (some r))) = rw f at (all→ (λ o. not (on_both B o)) B.rules none-on-both (cause 0 a) (numbered B (cause 0 a) r f)) in
    T_not (in_scope? B r 0 && in_scope? B r 2) out (→and (in_scope? B r 0) (in_scope? B r 2) (→on_call B r 0 o) (→on_call B r 2 (rw one at o')))

-- THE RULES OF P3's BOARD, which is that after P2
abbrev rule_zero : Rule
rule_zero = record { scope = 0 ∷ 1 ∷ []; rows = (0 ∷ 1 ∷ []) ∷ (0 ∷ 2 ∷ []) ∷ (1 ∷ 2 ∷ []) ∷ [] }

abbrev rule_one : Rule
rule_one = record { scope = 1 ∷ 2 ∷ []; rows = (1 ∷ 0 ∷ []) ∷ (0 ∷ 1 ∷ []) ∷ [] }

-- where they are the only rules in force and slot 0 of call 0 is open, no row of the cause of slot 2 of call 1 holds it: rule 0's row (0, 2) could only be killed by that
-- slot itself, and rule 1 has no such row
module _ (B : Board) (cause killer : ℕ → ℕ → ℕ) (zero-force : InForce B 0 rule_zero) (one-force : InForce B 1 rule_one) (only : (p : ℕ) (r : Rule) → InForce B p r → (p ≡ 0) ⊎ (p ≡ 1))
    (counts : Active B rule_zero 1) (living : Viable B 0 0) where
  not_by_zero : {c t : ℕ} → Grounded B cause killer c t → c ≡ 1 → t ≡ 2 → cause c t ≡ 0 → ⊥
  not_by_zero {c} {t} (because r f o k g) ec et e =
      let same : r ≡ rule_zero = one_rule B 0 (rw e at f) zero-force in
      let hd : Holds B r 1 c t = rw (same, ec, et) (record { column = 1; active = counts; call = refl; slot = refl }) in
      let lw : 1 < length r.rows = rw same (lit< tt) in
      let lk : killer (cause c t) 1 < length r.scope = active_below B r (killer (cause c t) 1) (k 1 lw hd) in
      go (killer (cause c t) 1) (rw same at lk) (λ ej. out (rw (ej, same) at (g 1 lw hd))) (λ ej. not_by_zero (g 1 lw hd) (rw (ej, same) refl) (rw (ej, same) refl) (rw (ej, same, ← ec, ← et) e))
    where
      out : Grounded B cause killer 0 0 → ⊥
      out h = grounded_out B cause killer h (Passing living.set) living.self living.has

      go : (j : ℕ) → j < 2 → (j ≡ 0 → ⊥) → (j ≡ 1 → ⊥) → ⊥
      go zero l a b = a refl
      go (suc zero) l a b = b refl
      go (suc (suc j)) l a b = absurd (omega arith)

  held_by_none : Grounded B cause killer 1 2 → (r : Rule) → InForce B (cause 1 2) r → (w : ℕ) → w < length r.rows → Holds B r w 1 2 → ⊥
  held_by_none h r f w lw hd = ⊎_elim (λ e. not_by_zero h refl refl e) (λ e. one (one_rule B 1 (rw e at f) one-force)) (only (cause 1 2) r f)
    where
      one : r ≡ rule_one → ⊥
      one same = row w hd.column (rw same at lw) (rw same at (active_below B r hd.column hd.active)) (rw same at hd.call) (rw same at hd.slot)
        where
          row : (w k : ℕ) → w < 2 → k < 2 → call_at rule_one k ≡ 1 → slot_at rule_one w k ≡ 2 → ⊥
          row zero zero l h e d = absurd (omega (arith, d))
          row (suc zero) zero l h e d = absurd (omega (arith, d))
          row w (suc zero) l h e d = absurd (omega (arith, e))
          row (suc (suc w)) zero l h e d = absurd (omega arith)
          row w (suc (suc k)) l h e d = absurd (omega arith)

-- of so many rules each number is 0 or 1, by a test over the list
only_two : (B : Board) → T (every? 64 (λ p. ltb p 2 || is_none (get_or B.rules p none))) → length B.rules ≡ 64 → (p : ℕ) (r : Rule) → InForce B p r → (p ≡ 0) ⊎ (p ≡ 1)
only_two B each size p r f =
    ⊎_elim (λ l. small p (ltb→lt p 2 l)) (λ n. absurd (rw f at n))
    (or→ (ltb p 2) (is_none (get_or B.rules p none)) (every→ 64 (λ p. ltb p 2 || is_none (get_or B.rules p none)) each p (omega (arith, numbered B p r f))))
  where
    small : (p : ℕ) → p < 2 → (p ≡ 0) ⊎ (p ≡ 1)
    small zero l = inl refl
    small (suc zero) l = inr refl
    small (suc (suc p)) l = absurd (omega arith)

-- SO A LIFT OF RULE 0 THERE touches at most the struck slots but that one
abbrev but_one : Board → ℕ → ℕ → Bool
but_one B c t = closed? B (open_of B) c t && not (eqb c 1 && eqb t 2)

module _ (L : Ledger) (shape : LedgerShape L) (s : State) (rep : Represents L s) (zero-force : InForce L.board 0 rule_zero) (one-force : InForce L.board 1 rule_one)
    (only : (p : ℕ) (r : Rule) → InForce L.board p r → (p ≡ 0) ⊎ (p ≡ 1)) (counts : Active L.board rule_zero 1) (living : Viable L.board 0 0) where
  but_one_lem : (c t : ℕ) → Struck L.board (cause_of s.slots) c t → (c ≡ 1 → t ≡ 2 → ⊥) → T (but_one L.board c t)
  but_one_lem c t h apart =
      let range = on_range L.board shape.board c t h.0 in
      →and (closed? L.board (open_of L.board) c t) (not (eqb c 1 && eqb t 2))
      (subst (λ (b : Bool). T b) (struck_closed L s rep c t range.1 range.2) (lt→ltb (cause_of s.slots c t) 64 h.1))
      (not_T (eqb c 1 && eqb t 2) (λ b. let d = and→ (eqb c 1) (eqb t 2) b in apart (eqb→eq c 1 d.0) (eqb→eq t 2 d.1)))

  grounded_at : {c t : ℕ} → Struck L.board (cause_of s.slots) c t → c ≡ 1 → t ≡ 2 → Grounded L.board (cause_of s.slots) (killer_of s.killers) 1 2
  grounded_at h ec et = rep.stored.recorded.sound.grounded 1 2 (rw (ec, et) at h)

  but_one_closed : ClosedFor L.board (CauseIs (cause_of s.slots) 0) (cause_of s.slots) (killer_of s.killers) (Passing (but_one L.board))
  but_one_closed =
      record {
        seed = λ c t h e. but_one_lem c t h
            (λ ec et. not_by_zero L.board (cause_of s.slots) (killer_of s.killers) zero-force one-force only counts living (grounded_at h ec et) refl refl (rw (ec, et) at e));
        more = λ c t h r f w lw hd k. but_one_lem c t h
            (λ ec et. held_by_none L.board (cause_of s.slots) (killer_of s.killers) zero-force one-force only counts living (grounded_at h ec et) r (rw (ec, et) at f) w lw (rw (ec, et) at hd));
      }

  but_one_most : {n : ℕ} → RetractTouched L.board 0 s.killers s.slots n → n ≤ slot_count (but_one L.board)
  but_one_most x = rw x.size (slots_most (λ c t. true && x.set c t) (but_one L.board) (λ c t lc lt i. x.smallest.least (but_one L.board) but_one_closed c t i))

-- a lift of rule 0 that is not refused takes it out of force
lifted : (L : Ledger) → refusal L lengths (retract_bytes 0) ≡ 0 → (step L lengths (retract_bytes 0)).board ≡ with_rule L.board 0 none
lifted L e = ap (λ (n : ℕ). (obey n L (read_at (retract_bytes 0) 0).read (read_at (retract_bytes 0) 0).counts).board) e

-- the columns of all rules
abbrev pub column_count : List (Option Rule) → ℕ
column_count [] = 0
column_count (o ∷ os) = length (rule_or o).scope + column_count os

module _ (x : Sample) (s : Whole) (given : Answer) (s' : Whole) (last : Last x s given s') where
  is : IsOf (ledger_before x) s
  is = runs_represent (map member x.before) s last.reached

  lent : lent_with s ≡ lengths
  lent = is_lengths (ledger_before x) s is

  answered : Answered (lent_with s) (ledger_before x) s.marked x.last given s'.marked
  answered = last.promise.memory.answered (ledger_before x) is.0 is.1

  is_after : IsOf (ledger_last x) s'
  is_after = subst (λ (l : CommandLent). IsOf (step (ledger_before x) l x.last) s') lent (promise_keeps (ledger_before x) s s' x.last given is last.promise)

  after : Represents (ledger_last x) s'.marked.state
  after = is_after.1.state

  -- a call's record is the one that the board says
  figures : (c : ℕ) → c < records_length → get_or s'.table c no_summary ≡ record_of (ledger_last x).board c
  figures = is_after.2.each

  -- a byte is 255 where the sample says open, and only there
  opens : Right x → (c t : ℕ) → c < 32 → t < 32 → T (in? x.outcome.left c t) → cause_of s'.marked.state.slots c t ≡ 255
  opens right c t lc lt i = (after.stored.viable c t lc lt).1 ((right.viable c t).0 i)

  closes : Right x → (c t : ℕ) → c < 32 → t < 32 → T (not (in? x.outcome.left c t)) → cause_of s'.marked.state.slots c t ≢ 255
  closes right c t lc lt n e = T_not (in? x.outcome.left c t) n ((right.viable c t).1 ((after.stored.viable c t lc lt).0 e))

  -- the answer is the one that the sample's refusal decides
  refusal_is : Right x → refusal (ledger_before x) (lent_with s) x.last ≡ x.outcome.refused
  refusal_is right = ap (λ (l : CommandLent). refusal (ledger_before x) l x.last) lent ∙ ap (λ (o : Outcome). o.refused) right.outcome

  accepted_is : Right x → x.outcome.refused ≡ 0 → given ≡ Ok answered.report
  accepted_is right accepted =
      accepted_by given answered.report (answered.values ∙ ap (λ (n : ℕ). values_at n (report_values answered.report)) (refusal_is right ∙ accepted))

  -- a slot of the board that the sample says is closed is struck
  strikes : Right x → (c t : ℕ) → c < 32 → t < 32 → OnBoard (ledger_last x).board c t → T (not (in? x.outcome.left c t))
      → Struck (ledger_last x).board (cause_of s'.marked.state.slots) c t
  strikes right c t lc lt on n = (on, go (after.stored.recorded.sound.either c t on))
    where
      go : (cause_of s'.marked.state.slots c t ≡ 255) ⊎ (cause_of s'.marked.state.slots c t < 64) → cause_of s'.marked.state.slots c t < 64
      go (inl e) = absurd (closes right c t lc lt n e)
      go (inr h) = h

  -- before the last command a byte is 255 where the filter finds the slot open
  was : (c t : ℕ) → c < 32 → t < 32 → open? s.marked.state.slots c t ≡ in? (open_of (ledger_before x).board) c t
  was = open_in (ledger_before x) s.marked.state is.1.state

  now_is : (c t : ℕ) → c < 32 → t < 32 → open? s'.marked.state.slots c t ≡ in? (open_of (ledger_last x).board) c t
  now_is = open_in (ledger_last x) s'.marked.state after

  -- what the slot bytes say of a slot that the command opened or closed cannot stay
  changes : (c t : ℕ) → c < 32 → t < 32 → T (differ (in? (open_of (ledger_before x).board) c t) (in? (open_of (ledger_last x).board) c t))
      → s'.marked.state.slots ≡ s.marked.state.slots → ⊥
  changes c t lc lt d same =
      differ_not (in? (open_of (ledger_before x).board) c t) (in? (open_of (ledger_last x).board) c t) d
      (sym (was c t lc lt) ∙ ap (λ (l : List ℕ). open? l c t) (sym same) ∙ now_is c t lc lt)

  shape_after : LedgerShape (ledger_last x)
  shape_after = is_after.0

  lent_after : lent_of s'.marked.state ≡ lengths.buffers
  lent_after = ap (λ (l : CommandLent). l.buffers) (is_lengths (ledger_last x) s' is_after)

  -- a value of which the report of what was read says n is n in the answer
  told : (value : Report → ℕ) (n : ℕ) → ((r : Report) → ReportsOf (ledger_before x).board (read_at x.last 0).read s.marked.state s'.marked.state r → value r ≡ n) → Right x → x.outcome.refused ≡ 0
      → (r : Report) → given ≡ Ok r → value r ≡ n
  told value n says right accepted r e =
      let d = accepted_is right accepted in
      let q : answered.report ≡ r = cc in
      rw q at (says answered.report (answered.reported (refusal_is right ∙ accepted)))

-- the samples that show something
right_p1 : Right p1
right_p1 = samples_right.0

right_p2 : Right p2
right_p2 = samples_right.1.0

right_p3 : Right p3
right_p3 = samples_right.1.1.0

right_p4_retract : Right p4_retract
right_p4_retract = samples_right.1.1.1.1.0

right_p5 : Right p5
right_p5 = samples_right.1.1.1.1.1.1.0

right_c1 : Right c1
right_c1 = samples_right.1.1.1.1.1.1.1.1.1.1.1.1.1.1.0

module _ (s : Whole) (given : Answer) (s' : Whole) where
  -- A BOARD THAT REFUSES ALL COMMANDS
  pub not_refusing : Last p1 s given s' → (e : Refusal) → given ≡ Err e → ⊥
  not_refusing last f e =
      let d = accepted_is p1 s given s' last right_p1 refl in
      let z : ◌≡◌ {A = ℕ} 0 1 = cc in
      omega arith

  -- ONE THAT STRIKES EVERYTHING
  pub not_striking_all : Last p1 s given s' → ((c t : ℕ) → OnBoard (ledger_last p1).board c t → cause_of s'.marked.state.slots c t < 64) → ⊥
  not_striking_all last all = omega (arith, all 0 0 (lit< tt), opens p1 s given s' last right_p1 0 0 (lit< tt) (lit< tt) tt)

  -- ONE THAT STRIKES NOTHING
  pub not_striking_none : Last p1 s given s' → ((c t : ℕ) → OnBoard (ledger_last p1).board c t → cause_of s'.marked.state.slots c t ≡ 255) → ⊥
  not_striking_none last all = closes p1 s given s' last right_p1 0 2 (lit< tt) (lit< tt) tt (all 0 2 (lit< tt))

  -- ONE THAT ALWAYS SHOWS ONE MASK: after P5 the two calls differ
  pub not_one_mask : Last p5 s given s' → (shown : Result OpenSlots Refusal) → SlotsPromise s'.marked.state 0 shown → SlotsPromise s'.marked.state 1 shown → ⊥
  unfolding active?
  not_one_mask last shown m m' =
      let L = ledger_last p5 in
      let shape = shape_after p5 s given s' last in
      let rep = after p5 s given s' last in
      let same = lent_after p5 s given s' last in
      let e : slots_values shown ≡ values_at_lem 0 lengths.buffers = (m.answered L shape rep).values ∙ ap (values_at_lem 0) same in
      let e' : slots_values shown ≡ values_at_lem 1 lengths.buffers = (m'.answered L shape rep).values ∙ ap (values_at_lem 1) same in
      let empty : mask_of 32 (open? s'.marked.state.slots 0) ≡ 0 =
      mask_same 32 (open? s'.marked.state.slots 0) (in? (open_of L.board) 0) (λ t h. now_is p5 s given s' last 0 t (lit< tt) h) in
      let full : mask_of 32 (open? s'.marked.state.slots 1) ≡ 3 =
      mask_same 32 (open? s'.marked.state.slots 1) (in? (open_of L.board) 1) (λ t h. now_is p5 s given s' last 1 t (lit< tt) h) in
      let z : ◌≡◌ {A = ℕ} 0 3 = sym empty ∙ ap (λ (l : List ℕ). get_or l 0 0) (sym e ∙ e') ∙ full in
      omega arith
    where
      values_at_lem : ℕ → Lent → List ℕ
      values_at_lem c l = values_at (first_of (call_conditions (ledger_last p5) l c)) (mask_of 32 (open? s'.marked.state.slots c) ∷ count_below 32 (open? s'.marked.state.slots c) ∷ [])

  -- ONE THAT IGNORES LIFTS
  pub not_ignoring_lifts : Last p6 s given s' → s'.marked.state.slots ≡ s.marked.state.slots → ⊥
  unfolding active?
  not_ignoring_lifts last = changes p6 s given s' last 0 0 (lit< tt) (lit< tt) tt

  -- ONE THAT STRIKES AT THE FIRST PUT AND IDLES LATER
  pub not_idling : Last p2 s given s' → s'.marked.state.slots ≡ s.marked.state.slots → ⊥
  unfolding active?
  not_idling last = changes p2 s given s' last 0 1 (lit< tt) (lit< tt) tt

  -- ONE THAT NAMES ONE CAUSE FOR ALL
  pub not_one_cause : Last p2 s given s' → (n : ℕ) → ((c t : ℕ) → Struck (ledger_last p2).board (cause_of s'.marked.state.slots) c t → cause_of s'.marked.state.slots c t ≡ n) → ⊥
  unfolding active?
  not_one_cause last n one =
      let h = strikes p2 s given s' last right_p2 0 2 (lit< tt) (lit< tt) (lit< tt) tt in
      let h' = strikes p2 s given s' last right_p2 2 1 (lit< tt) (lit< tt) (lit< tt) tt in
      let sound = (after p2 s given s' last).stored.recorded.sound in
      two_causes (ledger_last p2).board (cause_of s'.marked.state.slots) (killer_of s'.marked.state.killers) tt
      (sound.grounded 0 2 h) (sound.grounded 2 1 h') (one 0 2 h ∙ sym (one 2 1 h'))

  -- ONE THAT INVENTS S, AND ONE THAT INVENTS R
  pub not_inventing_struck : Last p1 s given s' → (r : Report) → given ≡ Ok r → r.struck ≢ 2 → ⊥
  not_inventing_struck last r e wrong =
      wrong (told p1 s given s' last (λ r. r.struck) 2
      (λ r w. w.struck ∙ struck_between_lem (ledger_before p1) (ledger_last p1) s.marked.state s'.marked.state (is p1 s given s' last).1.state (after p1 s given s' last)
      ∙ ap (λ (o : Outcome). o.struck) right_p1.outcome)
      right_p1 refl r e)

  pub not_inventing_reopened : Last p3 s given s' → (r : Report) → given ≡ Ok r → r.reopened ≢ 4 → ⊥
  not_inventing_reopened last r e wrong =
      wrong (told p3 s given s' last (λ r. r.reopened) 4
      (λ r w. w.reopened ∙ reopened_between_lem (ledger_before p3) (ledger_last p3) s.marked.state s'.marked.state (is p3 s given s' last).1.state (after p3 s given s' last)
      ∙ ap (λ (o : Outcome). o.reopened) right_p3.outcome)
      right_p3 refl r e)

  -- ONE WHOSE T IS LOOSE: before P3's lift five slots are struck, and one of them stands in no row of its cause
  pub not_loose_touched : Last p3 s given s' → (r : Report) → given ≡ Ok r → r.touched ≢ 4 → ⊥
  unfolding active?
  not_loose_touched last r e wrong =
      wrong (told p3 s given s' last (λ r. r.touched) 4
      (λ r w. between (reopened_between s.marked.state.slots s'.marked.state.slots) r.touched
      (reopened_between_lem (ledger_before p3) (ledger_last p3) s.marked.state s'.marked.state (is p3 s given s' last).1.state (after p3 s given s' last)
      ∙ ap (λ (o : Outcome). o.reopened) right_p3.outcome)
      (retract_least (ledger_before p3).board (is p3 s given s' last).0.board 0 (lit< tt) (is p3 s given s' last).1.state.stored
      (subst (λ (B : Board). Stored B s'.marked.state.value.heads s'.marked.state.rows s'.marked.state.killers s'.marked.state.slots)
      (lifted (ledger_before p3) (ap (λ (o : Outcome). o.refused) right_p3.outcome)) (after p3 s given s' last).stored) w.own.touched)
      (but_one_most (ledger_before p3) (is p3 s given s' last).0 s.marked.state (is p3 s given s' last).1.state refl refl (only_two (ledger_before p3).board tt refl) tt
      ((found_viable (ledger_before p3).board 0 0).0 tt) w.own.touched))
      right_p3 refl r e)
    where
      between : (back t : ℕ) → back ≡ 4 → back ≤ t → t ≤ 4 → t ≡ 4
      between back t e l m = omega arith

  -- ONE THAT COUNTS THE CANCELLED CALL'S OWN SLOTS IN T: before C1 three slots of other calls were struck
  pub not_own_touched : Last c1 s given s' → (r : Report) → given ≡ Ok r → 3 < r.touched → ⊥
  unfolding active?
  not_own_touched last r e more =
      let d = accepted_is c1 s given s' last right_c1 refl in
      let q : (answered c1 s given s' last).report ≡ r = cc in
      let w = (answered c1 s given s' last).reported (refusal_is c1 s given s' last right_c1) in
      below r.touched (struck_beside 1 s.marked.state.slots) 3 more (touched_most (rw q at w.own.touched))
      (struck_beside_lem (ledger_before c1) s.marked.state (is c1 s given s' last).1.state 1 ∙ three)
    where
      below : (t b n : ℕ) → n < t → t ≤ b → b ≡ n → ⊥
      below t b n more most e = omega arith

      three : slot_count (λ d t. not (eqb d 1) && closed? (ledger_before c1).board (open_of (ledger_before c1).board) d t) ≡ 3
      three = refl

  -- ONE THAT SAYS "NONE" WITH A LIVING ROW THERE: row 0 of P1's rule holds slot 0 in column 0
  pub not_none_with_support : Last p1 s given s' → SupportPromise s'.marked.state 0 0 0 (Ok None) → ⊥
  unfolding active?
  not_none_with_support last m =
      let L = ledger_last p1 in
      (m.answered L (shape_after p1 s given s' last) (after p1 s given s' last)).means (ap (λ (l : Lent). first_of (support_conditions L l 0 0 0)) (lent_after p1 s given s' last)) 0
      (record {
        active = tt;
        there = lit< tt;
        living = λ k n. (found_viable L.board (call_at (rule_at L.board 0) k) (slot_at (rule_at L.board 0) 0 k)).0 (within→ L.board (rule_at L.board 0) (open_of L.board) 0 tt k n);
        has = refl;
      })

  -- THE WRONG TURNS (SCOPE 9). 9.1: P4's two slots are left struck, each waiting for the other
  pub not_waiting : Last p4_retract s given s' → cause_of s'.marked.state.slots 0 1 < 64 → cause_of s'.marked.state.slots 1 1 < 64 → ⊥
  not_waiting last h h' = omega (arith, opens p4_retract s given s' last right_p4_retract 0 1 (lit< tt) (lit< tt) tt)

  -- 9.2: slot 1 of call 2 is left struck in P3
  pub not_own_cause_only : Last p3 s given s' → cause_of s'.marked.state.slots 2 1 < 64 → ⊥
  not_own_cause_only last h = omega (arith, opens p3 s given s' last right_p3 2 1 (lit< tt) (lit< tt) tt)

  -- 9.4: P5's call 1 is cleared because call 0 has nothing left
  pub not_clearing : Last p5 s given s' → ((c t : ℕ) → OnBoard (ledger_last p5).board c t → cause_of s'.marked.state.slots c t < 64) → ⊥
  not_clearing last all = omega (arith, all 1 0 (lit< tt), opens p5 s given s' last right_p5 1 0 (lit< tt) (lit< tt) tt)

  -- WRONG TABLES (SCOPE 2.9). ONE OF ZEROS after P1, which leaves open slots
  pub not_table_of_zeros : Last p1 s given s' → s'.table ≡ no_records → ⊥
  unfolding active?
  not_table_of_zeros last zeros =
      let z : ◌≡◌ {A = ℕ} 0 2 = ap (λ (l : List Summary). (get_or l 0 no_summary).«open») (sym zeros) ∙ ap (λ (r : Summary). r.«open») (figures p1 s given s' last 0 (lit< tt)) in
      omega arith

  -- THE TABLE OF THE BOARD BEFORE: P1's put strikes slots of call 0
  pub not_table_before : Last p1 s given s' → Current (ledger_before p1).board s'.table → ⊥
  unfolding active?
  not_table_before last old =
      let z : ◌≡◌ {A = ℕ} 3 2 = ap (λ (r : Summary). r.«open») (sym (old.each 0 (lit< tt)) ∙ figures p1 s given s' last 0 (lit< tt)) in
      omega arith

  -- of numbers alone: beside the boards of the samples they would take too many steps
  past : (c : ℕ) → suc (suc (suc c)) < 3 → ⊥
  past c h = omega arith

  past_both : (c : ℕ) → T (has (0 ∷ 1 ∷ []) (suc (suc c))) → ⊥
  past_both c on = rw (ne_eqb 0 (suc (suc c)) (λ e. omega arith), ne_eqb 1 (suc (suc c)) (λ e. omega arith)) at on

  -- ONE WHOSE RULES ARE COUNTED BY COLUMNS, those of all rules in force: after P2 no call of the board has so many rules on it
  pub not_rules_by_column : Last p2 s given s' → (c : ℕ) → c < length (ledger_last p2).board.counts
      → (get_or s'.table c no_summary).rules ≡ column_count (ledger_last p2).board.rules → ⊥
  not_rules_by_column last c on columns = go c on (sym (ap (λ (r : Summary). r.rules) (figures p2 s given s' last c (omega arith))) ∙ columns)
    where
      go : (c : ℕ) → c < 3 → (record_of (ledger_last p2).board c).rules ≡ 4 → ⊥
      go zero h e = omega (arith, e)
      go (suc zero) h e = omega (arith, e)
      go (suc (suc zero)) h e = omega (arith, e)
      go (suc (suc (suc c))) h e = past c h

  -- ONE THAT STILL COUNTS THE LIFTED RULE, P3's rule 0, on one of its calls
  pub not_lift_counted : Last p3 s given s' → (c : ℕ) → T (rule_on? (ledger_before p3).board c 0)
      → (get_or s'.table c no_summary).rules ≡ (record_of (ledger_before p3).board c).rules → ⊥
  not_lift_counted last zero on same =
      let z : ◌≡◌ {A = ℕ} 0 1 = sym (ap (λ (r : Summary). r.rules) (figures p3 s given s' last 0 (lit< tt))) ∙ same in
      omega arith
  not_lift_counted last (suc zero) on same =
      let z : ◌≡◌ {A = ℕ} 1 2 = sym (ap (λ (r : Summary). r.rules) (figures p3 s given s' last 1 (lit< tt))) ∙ same in
      omega arith
  not_lift_counted last (suc (suc c)) on same = past_both c on
