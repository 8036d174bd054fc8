-- The place that is replied is that of the part that the question hands back. Assumes nothing.
use Rattle.std.specs.Prelude.{◌≡◌, refl, List, ◌≢◌, ℕ, zero, suc, ◌+◌, ◌*◌, ◌≤◌, length}
use Rattle.std.proofs.Common.{ap, ◌∙◌, arith, length-take, length-drop}
use Rattle.model.specs.Questions.{row_checks, bytes_by, RowBytesPromise}
use Rattle.berth_reply.specs.Replies.{place_reply, PlaceReplied}
use Rattle.layout.specs.Memory.{State}
use Rattle.questions.proofs.Laws.Bounds.{row_bounds}
use Rattle.berth_reply.specs.Places.{row_place_reply}
use Rattle.model.specs.Refusals.{first_of}

pub placed : (n p w : ℕ) → n ≢ 0 → record { place = 256 * p + 4 * w; length = n } ≡ row_place_reply n p w
placed zero p w some = absurd (some refl)
placed (suc n) p w some = refl

pub place_replied : (s : State) (p w : ℕ) (bytes : List ℕ) → RowBytesPromise s p w bytes → PlaceReplied s p w (row_place_reply (length bytes) p w)
place_replied s p w bytes promise = go (first_of (row_checks s p w)) refl promise.equation
  where
    go : (n : ℕ) → n ≡ first_of (row_checks s p w) → bytes ≡ bytes_by n s.rows p w → PlaceReplied s p w (row_place_reply (length bytes) p w)
    go zero e same =
        let there = row_bounds s p w e in
        let last : 256 * p + 4 * w + 4 ≤ length s.rows = omega (arith, there.rows_size, there.number, there.few) in
        let four : length bytes ≡ 4 = ap length same ∙ simp (length-take, length-drop) (omega arith) in
        rw four
        (record {
          equation = ap (λ (n : ℕ). place_reply n p w) e;
          inside = last;
          promise = rw same at promise;
        })
    go (suc n) e same =
        rw (ap length same)
        (record {
          equation = ap (λ (n : ℕ). place_reply n p w) e;
          inside = omega arith;
          promise = rw same at promise;
        })
