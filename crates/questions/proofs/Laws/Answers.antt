-- WHAT A QUESTION'S FUNCTION SHOWS of its answer, to meet its promise: where its checks refuse the answer is that refusal, and where they do not it is read off the
-- bytes. Assumes nothing.
use Rattle.std.specs.Prelude.{◌≡◌, refl, true, false, [], ℕ, zero, suc, ◌+◌, ◌*◌, ◌<◌, take, drop, Option, Some, None, Result, Ok, Err}
use Rattle.std.proofs.Common.{sym, ap, subst, ◌∙◌, true≢false, arith, le-ltb, lt-ltb}
use Rattle.std.specs.Int.Count.{ones}
use Rattle.model.specs.declared.refusal.Refusal.{Refusal}
use Rattle.model.specs.Tests.{some?}
use Rattle.model.specs.Report.{open?}
use Rattle.model.specs.Questions.{call_checks, slot_checks, row_checks, support_checks, mask_of, SlotsPromise, state_shown, StatePromise, row_shown, RowPromise, bytes_by, RowBytesPromise, supports?, column_cancelled?, SupportPromise}
use Rattle.model.proofs.Laws.Tests.{→T}
use Rattle.model.proofs.Laws.Questions.{first_found, first_none, slots_promise, state_promise, row_promise, row_bytes_promise, support_promise}
use Rattle.layout.specs.Places.{cause_of, killer_of, rows_of}
use Rattle.layout.specs.Memory.{State}
use Rattle.questions.specs.Parts.{active_support}
use Rattle.questions.proofs.Laws.Mask.{ones_mask}
use Rattle.std.specs.Result.{is_ok}
use Rattle.model.specs.Refusals.{number, first_of, number_of}
use Rattle.model.proofs.Laws.Refusals.{number_not_zero}

-- an answer that is no refusal has the number 0
pub none_refused : {A : Type 0} (r : Result A Refusal) → is_ok r ≡ true → number_of r ≡ 0
none_refused (Ok a) e = refl
none_refused (Err f) e = absurd (true≢false (sym e))

module _ (s : State) where
  pub slots_refused : (c : ℕ) {f : Refusal} → number f ≡ first_of (call_checks s c) → SlotsPromise s c (Err f)
  slots_refused c {f} e = slots_promise s c (Err f) e

  pub slots_given : (c : ℕ) {mask : ℕ} → 0 ≡ first_of (call_checks s c) → mask ≡ mask_of 32 (open? s.slots c)
      → SlotsPromise s c (Ok (record { mask = mask; count = ones mask }))
  slots_given c {mask} e h = slots_promise s c (Ok (record { mask = mask; count = ones mask })) (sym e, rw (h, ones_mask 32 (open? s.slots c)) refl)

  pub state_refused : (c t : ℕ) {f : Refusal} → number f ≡ first_of (slot_checks s c t) → StatePromise s c t (Err f)
  state_refused c t {f} e = state_promise s c t (Err f) e

  pub state_given : (c t : ℕ) {byte : ℕ} → 0 ≡ first_of (slot_checks s c t) → byte ≡ cause_of s.slots c t → StatePromise s c t (Ok (state_shown byte))
  state_given c t {byte} e h = state_promise s c t (Ok (state_shown byte)) (sym e, ap state_shown h)

  pub row_refused : (p w : ℕ) {f : Refusal} → number f ≡ first_of (row_checks s p w) → RowPromise s p w (Err f)
  row_refused p w {f} e = row_promise s p w (Err f) e

  pub row_given : (p w : ℕ) {byte : ℕ} → 0 ≡ first_of (row_checks s p w) → byte ≡ killer_of s.killers p w → RowPromise s p w (Ok (row_shown byte))
  row_given p w {byte} e h = row_promise s p w (Ok (row_shown byte)) (sym e, ap row_shown h)

  pub row_bytes_refused : (p w : ℕ) (f : Refusal) → number f ≡ first_of (row_checks s p w) → RowBytesPromise s p w []
  row_bytes_refused p w f e = rw (none_shown (first_of (row_checks s p w)) (λ z. number_not_zero f (e ∙ z))) at (row_bytes_promise s p w)
    where
      none_shown : (n : ℕ) → (n ≡ 0 → ⊥) → bytes_by n s.rows p w ≡ []
      none_shown zero ne = absurd (ne refl)
      none_shown (suc n) ne = refl

  pub row_bytes_given : (p w : ℕ) → 0 ≡ first_of (row_checks s p w) → RowBytesPromise s p w (take 4 (drop (256 * p + 4 * w) s.rows))
  row_bytes_given p w e = subst (λ (n : ℕ). RowBytesPromise s p w (bytes_by n s.rows p w)) (sym e) (row_bytes_promise s p w)

  pub support_refused : (p k t : ℕ) {f : Refusal} → number f ≡ first_of (support_checks s p k t) → SupportPromise s p k t (Err f)
  support_refused p k t {f} e = support_promise s p k t (Err f) e

  -- a row is looked for, unless the column's call is cancelled
  pub support_given : (p k t : ℕ) {r : Option ℕ} → 0 ≡ first_of (support_checks s p k t) → column_cancelled? s p k ≡ false → r ≡ active_support s p k t
      → SupportPromise s p k t (Ok r)
  support_given p k t {r} e active g = support_promise s p k t (Ok r) (sym e, g ∙ rw active refl)

  pub support_cancelled : (p k t : ℕ) → 0 ≡ first_of (support_checks s p k t) → column_cancelled? s p k ≡ true → SupportPromise s p k t (Ok None)
  support_cancelled p k t e off =
      let m = rows_of s.value.heads.lengths p in
      support_promise s p k t (Ok None) (sym e, rw (off, le-ltb m m (omega arith)) refl)

-- the support in an active column: a row that supports the slot, where none before it does; and none, where no row of the rule does
module _ (s : State) (p k t : ℕ) where
  pub row_found : {w : ℕ} → w < rows_of s.value.heads.lengths p → supports? s p k t w ≡ true → some? w (supports? s p k t) ≡ false → Some w ≡ active_support s p k t
  row_found {w} h found before =
      let m = rows_of s.value.heads.lengths p in
      rw (first_found m (supports? s p k t) w h (→T (supports? s p k t w) found) before, lt-ltb w m h) refl

  pub none_found : {m : ℕ} → m ≡ rows_of s.value.heads.lengths p → some? m (supports? s p k t) ≡ false → None ≡ active_support s p k t
  none_found {m} e before = rw (← e, first_none m (supports? s p k t) before, le-ltb m m (omega arith)) refl
