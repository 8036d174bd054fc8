-- The laws of a loop that treats the entries of a table one after another, each once: a round, no round, one round more. Assumes nothing.
use Rattle.std.specs.Prelude.{◌≡◌, refl, List, ℕ, ◌+◌, ◌≤◌, ◌<◌, length, get_or, set}
use Rattle.std.proofs.Common.{◌∙◌, ⊎_elim, arith, eq-or-lt_of_le, length-set, get_or-set_same, get_or-set_other}
use Rattle.tables.specs.Sweep.{One, Swept}

module _ {A : Type 0} (d : A) (S : ℕ → A → A → Type 0) (base : ℕ) where
  -- a round that stores v
  pub one_set : (i : ℕ) (l : List A) (v : A) → base + i < length l → S i (get_or l (base + i) d) v → One d S base i l (set l (base + i) v)
  one_set i l v h s =
      record {
        len = length-set l (base + i) v;
        at = rw (get_or-set_same l (base + i) v d h) s;
        other = λ j ne. get_or-set_other l (base + i) j v d ne;
      }

  -- a round that stores nothing
  pub one_keep : (i : ℕ) (l : List A) → S i (get_or l (base + i) d) (get_or l (base + i) d) → One d S base i l l
  one_keep i l s = record { len = refl; at = s; other = λ j ne. refl }

  -- before the first round
  pub swept_none : (l : List A) → Swept d S base 0 l l
  swept_none l = record { len = refl; inside = λ i lt. absurd (omega arith); below = λ j lt. refl; above = λ j le. refl }

  -- one round more
  pub swept_more : (n : ℕ) (a b c : List A) → Swept d S base n a b → One d S base n b c → Swept d S base (n + 1) a c
  swept_more n a b c p q =
      record {
        len = q.len ∙ p.len;
        inside = λ i lt.
            let le : i ≤ n = omega arith in
            ⊎_elim
            (λ (e : i ≡ n). rw (e, ← p.above (base + n) (omega arith)) q.at)
            (λ (h : i < n). rw (q.other (base + i) (λ e. omega arith)) (p.inside i h))
            (eq-or-lt_of_le le);
        below = λ j lt. q.other j (λ e. omega arith) ∙ p.below j lt;
        above = λ j le. q.other j (λ e. omega arith) ∙ p.above j (omega arith);
      }

  -- after the last round, where the loop's test says that n is m
  pub swept_at : {n m : ℕ} {a b : List A} → Swept d S base n a b → n ≤ m → m ≤ n → Swept d S base m a b
  swept_at {n} {m} p h k = let e : m ≡ n = omega arith in rw e p
