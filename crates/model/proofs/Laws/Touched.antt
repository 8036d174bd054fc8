-- THERE IS ONLY ONE SMALLEST SET, so T is determined by the board and by the causes and killers before the command; and T keeps its limits: R ≤ T ≤ the number of slots that
-- were struck, of other calls where one is cancelled (SCOPE 3.10, 3.17). Assumes nothing.
use Rattle.std.specs.Prelude.{◌≡◌, refl, Bool, true, false, not, ◌&&◌, List, ℕ, ◌<◌, ◌≤◌, T, eqb, ltb}
use Rattle.std.proofs.Common.{sym, ◌∙◌, inr, ⊎_elim, arith, eqb→eq, ltb→lt, lt→ltb}
use Rattle.std.proofs.Math.Option.{none}
use Rattle.std.proofs.Math.Dec.{not_T}
use Rattle.layout.specs.declared.value.Heads.{Heads}
use Rattle.model.specs.declared.answer.Report.{Report}
use Rattle.model.specs.declared.command.Command.{Command}
use Rattle.model.specs.declared.command.Command.TheVariants as kind
use Rattle.model.specs.Board.{Board, slots_on, OnBoard, Passing, Viable, Shape}
use Rattle.model.specs.Records.{Struck}
use Rattle.model.specs.Changes.{Weaker, Seeds, CauseIs, OwnSlot, Smallest}
use Rattle.model.specs.Ledger.{Ledger, LedgerShape, with_rule, cancel_call, effect}
use Rattle.model.specs.Report.{slot_count, struck?, open?, reopened_between, struck_in, struck_beside, TouchedFrom, RetractTouched, CancelTouched, ReportsOwn, Reports}
use Rattle.model.specs.Representation.{Stored, Represents}
use Rattle.model.proofs.Laws.Tests.{T?, and→, →and, same_test}
use Rattle.model.proofs.Laws.Theory.{on_live, live_not}
use Rattle.model.proofs.Laws.Change.{byte_on, reopened_in, retract_weaker, retract_seeds, cancel_weaker, cancel_seeds, cancelled_itself}
use Rattle.model.proofs.Laws.Reports.{slots_same, slots_most, slots_less}
use Rattle.layout.specs.Places.{cause_of, killer_of}
use Rattle.layout.specs.Memory.{State}

module _ (B : Board) (Seed : ℕ → ℕ → Type 0) (cause killer : ℕ → ℕ → ℕ) where
  -- TWO SMALLEST SETS ARE ONE
  pub one_smallest : (f g : ℕ → ℕ → Bool) → Smallest B Seed cause killer f → Smallest B Seed cause killer g → (c s : ℕ) → f c s ≡ g c s
  one_smallest f g a b c s = same_test (f c s) (g c s) (a.least g b.closed c s) (b.least f a.closed c s)

  abbrev struck_on : ℕ → ℕ → Bool
  struck_on c s = ltb s (slots_on B c) && ltb (cause c s) 64

  -- it has only struck slots of the board, since these are a closed set
  pub smallest_struck : (f : ℕ → ℕ → Bool) → Smallest B Seed cause killer f → (c s : ℕ) → T (f c s) → Struck B cause c s
  smallest_struck f a c s t = told c s (a.least struck_on (record { seed = λ d u h e. tests d u h; more = λ d u h r q w lw hd k. tests d u h }) c s t)
    where
      tests : (c s : ℕ) → Struck B cause c s → T (struck_on c s)
      tests c s h = →and (ltb s (slots_on B c)) (ltb (cause c s) 64) (lt→ltb s (slots_on B c) h.0) (lt→ltb (cause c s) 64 h.1)

      told : (c s : ℕ) → T (struck_on c s) → Struck B cause c s
      told c s t = let b = and→ (ltb s (slots_on B c)) (ltb (cause c s) 64) t in (ltb→lt s (slots_on B c) b.0, ltb→lt (cause c s) 64 b.1)

  -- where no struck slot is in the seed the smallest set is empty
  pub smallest_none : ((c s : ℕ) → Struck B cause c s → Seed c s → ⊥) → Smallest B Seed cause killer (λ c s. false)
  smallest_none empty = record { closed = record { seed = empty; more = λ c s h r f w lw hd k. k.member }; least = λ g h c s t. absurd t }

-- T IS DETERMINED
pub one_touched : {B : Board} {Seed : ℕ → ℕ → Type 0} {counted : ℕ → ℕ → Bool} {killers slots : List ℕ} {t u : ℕ} → TouchedFrom B Seed counted killers slots t
    → TouchedFrom B Seed counted killers slots u → t ≡ u
one_touched {B} {Seed} {counted} {killers} {slots} x y =
    x.size
    ∙ slots_same (λ c s. counted c s && x.set c s) (λ c s. counted c s && y.set c s)
    (λ c s lc ls. rw (one_smallest B Seed (cause_of slots) (killer_of killers) x.set y.set x.smallest y.smallest c s) refl)
    ∙ sym y.size

-- SO THE WHOLE REPORT IS, by the states before and after
pub record SameReport (r u : Report) : Type 0 where
  pub struck : r.struck ≡ u.struck
  pub reopened : r.reopened ≡ u.reopened
  pub touched : r.touched ≡ u.touched

pub one_report : (B : Board) (c : Command) (before after : State) (r u : Report) → Reports B c before after r → Reports B c before after u → SameReport r u
one_report B c before after r u x y = record { struck = same_struck; reopened = same_reopened; touched = own c x.own y.own }
  where
    same_struck : r.struck ≡ u.struck
    same_struck = x.struck ∙ sym y.struck

    same_reopened : r.reopened ≡ u.reopened
    same_reopened = x.reopened ∙ sym y.reopened

    own : (c : Command) → ReportsOwn B c before r → ReportsOwn B c before u → r.touched ≡ u.touched
    own kind.Board a b = a ∙ sym b
    own (kind.Head h) a b = a ∙ sym b
    own (kind.Row w) a b = a ∙ sym b
    own kind.Post a b = a.touched ∙ same_struck ∙ sym b.touched
    own (kind.Retract n) a b = one_touched a.touched b.touched
    own (kind.Gap f) a b = a ∙ sym b
    own (kind.Keep n) a b = a ∙ sym b
    own (kind.Back n) a b = a ∙ rw (same_struck, same_reopened) (sym b)
    own (kind.Cancel d) a b = one_touched a.touched b.touched

-- T IS AT MOST THE NUMBER OF SLOTS THAT WERE STRUCK, of those that count
pub touched_most : {B : Board} {Seed : ℕ → ℕ → Type 0} {counted : ℕ → ℕ → Bool} {killers slots : List ℕ} {t : ℕ} → TouchedFrom B Seed counted killers slots t
    → t ≤ slot_count (λ c s. counted c s && struck? slots c s)
touched_most {B} {Seed} {counted} {killers} {slots} x =
    rw x.size
    (slots_most (λ c s. counted c s && x.set c s) (λ c s. counted c s && struck? slots c s)
    (λ c s lc ls t.
    let b = and→ (counted c s) (x.set c s) t in
    →and (counted c s) (struck? slots c s) b.0
    (lt→ltb (cause_of slots c s) 64 (smallest_struck B Seed (cause_of slots) (killer_of killers) x.set x.smallest c s b.1).1)))

-- T IS AT LEAST R, between two boards that are stored, where every slot of the second counts: what was struck and is open is in every closed set
module _ (B B' : Board) (weaker : Weaker B B') (shape : Shape B) {h h' : Heads} {rows rows' killers killers' slots slots' : List ℕ} (stored : Stored B h rows killers slots)
    (stored' : Stored B' h' rows' killers' slots') (Seed : ℕ → ℕ → Type 0) (seeds : Seeds B B' (cause_of slots) Seed) (counted : ℕ → ℕ → Bool)
    (counts : (c s : ℕ) → OnBoard B' c s → T (counted c s)) {t : ℕ} (x : TouchedFrom B Seed counted killers slots t) where
  back_counted : (c s : ℕ) → c < 32 → s < 32 → T (struck? slots c s && open? slots' c s) → T (counted c s && x.set c s)
  back_counted c s lc ls back =
      let b = and→ (struck? slots c s) (open? slots' c s) back in
      let lt = ltb→lt (cause_of slots c s) 64 b.0 in
      let struck : Struck B (cause_of slots) c s = (byte_on B (cause_of slots) stored.off c s lc ls (inr lt), lt) in
      let opened : Viable B' c s = (stored'.viable c s lc ls).0 (eqb→eq (cause_of slots' c s) 255 b.1) in
      →and (counted c s) (x.set c s) (counts c s (opened.self.slots c s opened.has))
      (⊎_elim (λ i. i)
      (λ n. absurd (reopened_in B B' weaker shape Seed (Passing x.set) (cause_of slots) (killer_of killers) seeds x.smallest.closed stored.recorded.sound c s struck opened n))
      (T? (x.set c s)))

  pub touched_least : reopened_between slots slots' ≤ t
  touched_least = rw x.size (slots_most (λ c s. struck? slots c s && open? slots' c s) (λ c s. counted c s && x.set c s) back_counted)

  -- and more than R where a slot of the seed that counts is struck again
  pub touched_more : (c s : ℕ) → c < 32 → s < 32 → T (counted c s) → cause_of slots c s < 64 → Seed c s → cause_of slots' c s < 64 → reopened_between slots slots' < t
  touched_more c s lc ls i lt e again =
      rw x.size
      (slots_less (λ c s. struck? slots c s && open? slots' c s) (λ c s. counted c s && x.set c s) back_counted c s lc ls
      (λ b. let o = eqb→eq (cause_of slots' c s) 255 (and→ (struck? slots c s) (open? slots' c s) b).1 in omega arith)
      (→and (counted c s) (x.set c s) i (x.smallest.closed.seed c s (byte_on B (cause_of slots) stored.off c s lc ls (inr lt), lt) e)))

-- a lift: all slots count
module _ (B : Board) (shape : Shape B) (p : ℕ) (lp : p < 64) {h h' : Heads} {rows rows' killers killers' slots slots' : List ℕ} (stored : Stored B h rows killers slots)
    (stored' : Stored (with_rule B p none) h' rows' killers' slots') {t : ℕ} (x : RetractTouched B p killers slots t) where
  pub retract_least : reopened_between slots slots' ≤ t
  retract_least =
      touched_least B (with_rule B p none) (retract_weaker B shape p lp) shape stored stored' (CauseIs (cause_of slots) p) (retract_seeds B p (cause_of slots)) (λ c s. true) (λ c s on. tt) x

  -- T IS MORE THAN R where a slot that the lifted rule struck is struck again
  pub retract_more : (c s : ℕ) → c < 32 → s < 32 → cause_of slots c s ≡ p → cause_of slots' c s < 64 → reopened_between slots slots' < t
  retract_more c s lc ls e again =
      touched_more B (with_rule B p none) (retract_weaker B shape p lp) shape stored stored' (CauseIs (cause_of slots) p) (retract_seeds B p (cause_of slots)) (λ c s. true) (λ c s on. tt) x
      c s lc ls tt (omega (arith, e, lp)) e again

-- a cancellation: those of the other calls, and no other is on the board after it
pub cancel_least : (B : Board) → Shape B → (d : ℕ) → {h h' : Heads} {rows rows' killers killers' slots slots' : List ℕ} {t : ℕ} → Stored B h rows killers slots
    → Stored (cancel_call B d) h' rows' killers' slots' → CancelTouched B d killers slots t → reopened_between slots slots' ≤ t
cancel_least B shape d {slots = slots} stored stored' x =
    touched_least B (cancel_call B d) (cancel_weaker B d) shape stored stored' (OwnSlot d) (cancel_seeds B d (cause_of slots)) (λ c s. not (eqb c d))
    (λ c s on. not_T (eqb c d) (λ e. gone c s (eqb→eq c d e) on)) x
  where
    gone : (c s : ℕ) → c ≡ d → OnBoard (cancel_call B d) c s → ⊥
    gone c s e on = live_not (cancel_call B d) d (on_live (cancel_call B d) d s (rw e at on)) (cancelled_itself B d)

-- THE LIMITS, of a report that is right of a state that is a ledger's
module _ (L : Ledger) (shape : LedgerShape L) (before after : State) (ns : List ℕ) (rep : Represents L before) (r : Report) where
  pub retract_limits : (p : ℕ) → p < 64 → Represents (effect L (kind.Retract p) ns) after → Reports L.board (kind.Retract p) before after r
      → (r.reopened ≤ r.touched) × (r.touched ≤ struck_in before.slots)
  retract_limits p lp rep' w =
      (rw w.reopened (retract_least L.board shape.board p lp rep.stored rep'.stored w.own.touched), touched_most w.own.touched)

  pub cancel_limits : (d : ℕ) → Represents (effect L (kind.Cancel d) ns) after → Reports L.board (kind.Cancel d) before after r
      → (r.reopened ≤ r.touched) × (r.touched ≤ struck_beside d before.slots)
  cancel_limits d rep' w = (rw w.reopened (cancel_least L.board shape.board d rep.stored rep'.stored w.own.touched), touched_most w.own.touched)
