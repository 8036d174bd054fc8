-- S AND R OF THE BYTES ARE THOSE OF THE BOARDS: on a state that is a ledger's, a byte is 255 exactly where the filter finds the slot open, and a cause exactly
-- where the board has the slot and the filter does not. Assumes nothing.
use Rattle.std.specs.Prelude.{◌≡◌, refl, Bool, not, ◌&&◌, ◌⊎◌, ℕ, ◌+◌, ◌*◌, ◌<◌, ◌≤◌, ◌/◌, ◌%◌, T, eqb, ltb}
use Rattle.std.proofs.Common.{inl, inr, arith, eqb→eq, ltb→lt, lt→ltb, T_not}
use Rattle.std.proofs.Math.Dec.{not_T}
use Rattle.model.specs.Board.{slots_on, OnBoard}
use Rattle.model.specs.Filter.{in?, open_of}
use Rattle.model.specs.Ledger.{Ledger}
use Rattle.model.specs.Report.{slot_count, open?, struck?, closed?, struck_between, reopened_between, struck_beside, struck_of, reopened_of}
use Rattle.model.specs.Representation.{Represents}
use Rattle.model.proofs.Laws.Tests.{and→, →and, <?, →eqb, same_test, count_same, count_most, count_less}
use Rattle.model.proofs.Laws.Filter.{found_viable}
use Rattle.model.proofs.Laws.Change.{off_limits}
use Rattle.layout.specs.Places.{cause_of}
use Rattle.layout.specs.Memory.{State}
use Rattle.layout.specs.Sizes.{slots_length}

module _ (L : Ledger) (s : State) (rep : Represents L s) (c t : ℕ) (lc : c < 32) (lt : t < 32) where
  -- a byte that is open, and one that is a cause
  pub open_in : open? s.slots c t ≡ in? (open_of L.board) c t
  open_in =
      same_test (open? s.slots c t) (in? (open_of L.board) c t)
      (λ o. (found_viable L.board c t).1 ((rep.stored.viable c t lc lt).0 (eqb→eq (cause_of s.slots c t) 255 o)))
      (λ i. →eqb (cause_of s.slots c t) 255 ((rep.stored.viable c t lc lt).1 ((found_viable L.board c t).0 i)))

  on_board : T (struck? s.slots c t) → OnBoard L.board c t
  on_board h = go (<? t (slots_on L.board c))
    where
      go : OnBoard L.board c t ⊎ (OnBoard L.board c t → ⊥) → OnBoard L.board c t
      go (inl on) = on
      go (inr n) = absurd (omega (arith, rep.stored.off c t lc lt n, (off_limits L.board c t).0, ltb→lt (cause_of s.slots c t) 64 h))

  pub struck_closed : struck? s.slots c t ≡ closed? L.board (open_of L.board) c t
  struck_closed =
      same_test (struck? s.slots c t) (closed? L.board (open_of L.board) c t)
      (λ h.
      →and (ltb t (slots_on L.board c)) (not (in? (open_of L.board) c t)) (lt→ltb t (slots_on L.board c) (on_board h))
      (not_T (in? (open_of L.board) c t)
      (λ i. omega (arith, ltb→lt (cause_of s.slots c t) 64 h, (rep.stored.viable c t lc lt).1 ((found_viable L.board c t).0 i)))))
      (λ h.
      let b = and→ (ltb t (slots_on L.board c)) (not (in? (open_of L.board) c t)) h in
      cause b.1 (rep.stored.recorded.sound.either c t (ltb→lt t (slots_on L.board c) b.0)))
    where
      cause : T (not (in? (open_of L.board) c t)) → (cause_of s.slots c t ≡ 255) ⊎ (cause_of s.slots c t < 64) → T (struck? s.slots c t)
      cause n (inl e) = absurd (T_not (in? (open_of L.board) c t) n ((found_viable L.board c t).1 ((rep.stored.viable c t lc lt).0 e)))
      cause n (inr h) = lt→ltb (cause_of s.slots c t) 64 h

-- tests that agree on the slots of the memory count alike
pub slots_same : (f g : ℕ → ℕ → Bool) → ((c t : ℕ) → c < 32 → t < 32 → f c t ≡ g c t) → slot_count f ≡ slot_count g
slots_same f g same = count_same slots_length (λ i. f (i / 32) (i % 32)) (λ i. g (i / 32) (i % 32)) (λ i h. same (i / 32) (i % 32) (omega arith) (omega arith))

-- and one that passes wherever another does counts no fewer
pub slots_most : (f g : ℕ → ℕ → Bool) → ((c t : ℕ) → c < 32 → t < 32 → T (f c t) → T (g c t)) → slot_count f ≤ slot_count g
slots_most f g to = count_most slots_length (λ i. f (i / 32) (i % 32)) (λ i. g (i / 32) (i % 32)) (λ i h. to (i / 32) (i % 32) (omega arith) (omega arith))

pub slots_less : (f g : ℕ → ℕ → Bool) → ((c t : ℕ) → c < 32 → t < 32 → T (f c t) → T (g c t)) → (c t : ℕ) → c < 32 → t < 32 → (T (f c t) → ⊥) → T (g c t) → slot_count f < slot_count g
slots_less f g to c t lc lt out has =
    let call : (32 * c + t) / 32 ≡ c = omega arith in
    let slot : (32 * c + t) % 32 ≡ t = omega arith in
    count_less slots_length (λ i. f (i / 32) (i % 32)) (λ i. g (i / 32) (i % 32)) (λ i h. to (i / 32) (i % 32) (omega arith) (omega arith)) (32 * c + t) (omega arith)
    (rw (call, slot) out) (rw (call, slot) has)

-- the slots struck on calls other than c, by the board
pub struck_beside_lem : (L : Ledger) (s : State) → Represents L s → (c : ℕ)
    → struck_beside c s.slots ≡ slot_count (λ d t. not (eqb d c) && closed? L.board (open_of L.board) d t)
struck_beside_lem L s rep c =
    slots_same (λ d t. not (eqb d c) && struck? s.slots d t) (λ d t. not (eqb d c) && closed? L.board (open_of L.board) d t)
    (λ d t ld lt. rw (struck_closed L s rep d t ld lt) refl)

module _ (L L' : Ledger) (s s' : State) (rep : Represents L s) (rep' : Represents L' s') where
  pub struck_between_lem : struck_between s.slots s'.slots ≡ struck_of L'.board (open_of L.board) (open_of L'.board)
  struck_between_lem =
      slots_same (λ c t. open? s.slots c t && struck? s'.slots c t) (λ c t. in? (open_of L.board) c t && closed? L'.board (open_of L'.board) c t)
      (λ c t lc lt. rw (open_in L s rep c t lc lt, struck_closed L' s' rep' c t lc lt) refl)

  pub reopened_between_lem : reopened_between s.slots s'.slots ≡ reopened_of L.board (open_of L.board) (open_of L'.board)
  reopened_between_lem =
      slots_same (λ c t. struck? s.slots c t && open? s'.slots c t) (λ c t. closed? L.board (open_of L.board) c t && in? (open_of L'.board) c t)
      (λ c t lc lt. rw (struck_closed L s rep c t lc lt, open_in L' s' rep' c t lc lt) refl)
