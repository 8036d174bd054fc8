-- A loop that appends the bytes f i in its round i. Assumes nothing.
use Rattle.std.specs.Prelude.{◌≡◌, refl, ◌⊎◌, take, get_or}
use Rattle.std.proofs.Math.Path.{sym, ap}
use Rattle.std.proofs.Common.{◌∙◌, inl, inr, add-zero, zero-add, suc-add, add-suc, eq-or-lt_of_le, le_of_suc-le-suc, add-one, take-suc, List, [], ◌∷◌, ◌++◌, append_assoc, append-nil, ℕ, zero, suc, ◌+◌, ◌*◌, ◌≤◌, ◌<◌, arith}
use Rattle.std.proofs.Math.Nat.{mul-suc}
use Rattle.std.proofs.Math.ListN.{length, length-append}
use Rattle.model.specs.Tests.{up_from}
use Rattle.sheet_lines.specs.Append.{Room, Appended}
use Rattle.sheet_lines.proofs.Laws.Append.{append_none, append_more, room_after}
use Rattle.sheet_lines.specs.Joined.{joined}

module _ (f : ℕ → List ℕ) where
  -- before the first round; one round more; after the last, where the loop's test says that i is n
  pub joined_none : (at : ℕ) (l : List ℕ) → Appended (joined f 0) at l l at
  unfolding joined
  joined_none at l = append_none at l

  pub joined_more : {i at m r : ℕ} {old mid new : List ℕ} → Appended (joined f i) at old mid m → Appended (f i) m mid new r → Appended (joined f (i + 1)) at old new r
  unfolding joined
  joined_more {i} x y = rw (add-one i) (append_more x y)

  pub joined_at : {i n at r : ℕ} {old new : List ℕ} → Appended (joined f i) at old new r → i ≤ n → n ≤ i → Appended (joined f n) at old new r
  joined_at {i} {n} x h k = let e : n ≡ i = omega arith in rw e x

  -- room for all is room for the next
  joined_longer : (i n : ℕ) → i < n → length (joined f i) + length (f i) ≤ length (joined f n)
  unfolding joined
  joined_longer i zero h = absurd (omega arith)
  joined_longer i (suc n) h = go (λ l. joined_longer i n l) (eq-or-lt_of_le (le_of_suc-le-suc h))
    where
      go : (i < n → length (joined f i) + length (f i) ≤ length (joined f n)) → (i ≡ n) ⊎ (i < n) → length (joined f i) + length (f i) ≤ length (joined f n ++ f n)
      go ih (inl e) = rw e (omega (arith, length-append (joined f n) (f n)))
      go ih (inr l) = omega (arith, ih l, length-append (joined f n) (f n))

  pub joined_room : {i n at m : ℕ} {old mid : List ℕ} → i < n → Room at (length (joined f n)) old → Appended (joined f i) at old mid m → Room m (length (f i)) mid
  joined_room {i} {n} h room x = room_after room x (joined_longer i n h)

  -- where each is of at most k bytes, n of them are of at most k * n
  pub joined_most : (k n : ℕ) → ((i : ℕ) → i < n → length (f i) ≤ k) → length (joined f n) ≤ k * n
  unfolding joined
  joined_most k zero all = omega arith
  joined_most k (suc n) all =
      omega (arith, length-append (joined f n) (f n), joined_most k n (λ i h. all i (omega arith)), all n (omega arith), mul-suc k n)

  -- a list's bytes, where g takes a list apart into the bytes f of each member
  module _ (g : List ℕ → List ℕ) (none : g [] ≡ []) (each : (x : ℕ) (xs : List ℕ) → g (x ∷ xs) ≡ f x ++ g xs) where
    over_last : (i n : ℕ) → g (up_from i (suc n)) ≡ g (up_from i n) ++ f (i + n)
    over_last i zero = each i [] ∙ ap (λ (l : List ℕ). f i ++ l) none ∙ append-nil (f i) ∙ rw (none, add-zero i) refl
    over_last i (suc n) =
        each i (up_from (suc i) (suc n))
        ∙ ap (λ (l : List ℕ). f i ++ l) (over_last (suc i) n)
        ∙ sym (append_assoc (f i) (g (up_from (suc i) n)) (f (suc i + n)))
        ∙ rw (each i (up_from (suc i) n), suc-add i n, add-suc i n) refl

    pub joined_over : (n : ℕ) → joined f n ≡ g (up_from 0 n)
    unfolding joined
    joined_over zero = sym none
    joined_over (suc n) = ap (λ (l : List ℕ). l ++ f n) (joined_over n) ∙ sym (rw (zero-add n) at (over_last 0 n))

-- bytes that agree for each number
pub joined_same : (f g : ℕ → List ℕ) (n : ℕ) → ((i : ℕ) → i < n → f i ≡ g i) → joined f n ≡ joined g n
unfolding joined
joined_same f g zero same = refl
joined_same f g (suc n) same = let e = joined_same f g n (λ i h. same i (omega arith)) in let d = same n (omega arith) in rw (e, d) refl

-- the bytes of a list, one by one
pub joined_bytes : (l : List ℕ) (n : ℕ) → n ≤ length l → joined (λ i. get_or l i 0 ∷ []) n ≡ take n l
unfolding joined
joined_bytes l zero h = refl
joined_bytes l (suc n) h = rw (joined_bytes l n (omega arith), take-suc l n 0 (omega arith)) refl
