-- The laws of a loop that writes one value v at the entries of a set: a store, no store, one set after another, round by round. Assumes nothing.
use Rattle.std.specs.Prelude.{◌≡◌, refl, List, ◌⊎◌, ℕ, ◌+◌, ◌≤◌, ◌<◌, length, get_or, set}
use Rattle.std.proofs.Common.{◌∙◌, inl, inr, ⊎_elim, eq-or-lt_of_le, arith, length-set, get_or-set_same, get_or-set_other}
use Rattle.tables.specs.Assign.{Assigned, Below}
use Rattle.tables.specs.Laws.Facts.{eq_or_ne}

module _ {A : Type 0} (d v : A) (Free : A → Type 0) where
  -- a store at the only entry of Q
  pub assign_set : (Q : ℕ → Type 0) (i : ℕ) (l : List A) → i < length l → Free (get_or l i d) → Q i → ((j : ℕ) → Q j → j ≡ i) → Assigned d v Free Q l (set l i v)
  assign_set Q i l h f q only =
      record {
        len = length-set l i v;
        written = λ j qj fj. rw (only j qj) (get_or-set_same l i v d h);
        each = λ j.
            ⊎_elim
            (λ (e : j ≡ i). inr (rw e f, rw e (get_or-set_same l i v d h), rw e q))
            (λ ne. inl (get_or-set_other l i j v d ne))
            (eq_or_ne j i);
      }

  -- no store, where nothing of Q is to be written
  pub assign_keep : (Q : ℕ → Type 0) (l : List A) → ((j : ℕ) → Q j → Free (get_or l j d) → get_or l j d ≡ v) → Assigned d v Free Q l l
  assign_keep Q l h = record { len = refl; written = h; each = λ j. inl refl }

  -- the set may be put in other words
  pub assign_same : (P Q : ℕ → Type 0) {a b : List A} → ((j : ℕ) → Q j → P j) → ((j : ℕ) → P j → Q j) → Assigned d v Free P a b → Assigned d v Free Q a b
  assign_same P Q back forth m =
      record {
        len = m.len;
        written = λ j q f. m.written j (back j q) f;
        each = λ j. ⊎_elim (λ e. inl e) (λ t. inr (t.0, t.1, forth j t.2)) (m.each j);
      }

  -- an entry that holds v keeps it
  pub assign_stays : (Q : ℕ → Type 0) (a b : List A) (j : ℕ) → Assigned d v Free Q a b → get_or a j d ≡ v → get_or b j d ≡ v
  assign_stays Q a b j m e = ⊎_elim (λ s. s ∙ e) (λ t. t.1) (m.each j)

  -- one set after another is both
  pub assign_both : (P Q : ℕ → Type 0) (a b c : List A) → Assigned d v Free P a b → Assigned d v Free Q b c → Assigned d v Free (λ j. P j ⊎ Q j) a c
  assign_both P Q a b c m n =
      record {
        len = n.len ∙ m.len;
        written = λ j x f.
            ⊎_elim
            (λ p. assign_stays Q b c j n (m.written j p f))
            (λ q. ⊎_elim (λ s. n.written j q (rw s f)) (λ t. assign_stays Q b c j n t.1) (m.each j))
            x;
        each = λ j.
            ⊎_elim
            (λ s. ⊎_elim (λ r. inl (s ∙ r)) (λ t. inr (t.0, s ∙ t.1, inl t.2)) (m.each j))
            (λ u. ⊎_elim (λ r. inr (rw r at u.0, u.1, inr u.2)) (λ t. inr (t.0, u.1, inl t.2)) (m.each j))
            (n.each j);
      }

  module _ (Q : ℕ → ℕ → Type 0) where
    -- before the first round
    pub assign_none : (l : List A) → Assigned d v Free (Below Q 0) l l
    assign_none l = assign_keep (Below Q 0) l (λ j q f. absurd (let z = q.1 in omega arith))

    -- one round more, that writes one set more
    pub assign_more : (n : ℕ) (a b c : List A) → Assigned d v Free (Below Q n) a b → Assigned d v Free (Q n) b c → Assigned d v Free (Below Q (n + 1)) a c
    assign_more n a b c p q =
        assign_same _ (Below Q (n + 1))
        (λ j x.
        let lt = x.1 in
        let le : x.0 ≤ n = omega arith in
        ⊎_elim (λ (e : x.0 ≡ n). inr (rw e at x.2)) (λ (h : x.0 < n). inl (x.0, h, x.2)) (eq-or-lt_of_le le))
        (λ j x. ⊎_elim (λ y. let lt = y.1 in (y.0, omega arith, y.2)) (λ y. (n, omega arith, y)) x)
        (assign_both (Below Q n) (Q n) a b c p q)

    -- after the last round, where the loop's test says that n is m
    pub assign_at : {n m : ℕ} {a b : List A} → Assigned d v Free (Below Q n) a b → n ≤ m → m ≤ n → Assigned d v Free (Below Q m) a b
    assign_at {n} {m} p h k = let e : m ≡ n = omega arith in rw e p
