-- What a passed or a failed test says. Assumes nothing.
use Rattle.std.specs.Prelude.{◌≡◌, refl, Bool, true, false, not, ◌&&◌, ◌||◌, cond, List, [], ◌∷◌, ◌⊎◌, ℕ, zero, suc, ◌<◌, ◌≤◌, ◌+◌, ◌*◌, ◌/◌, ◌%◌, min, length, get_or, T, eqb, ltb}
use Rattle.std.proofs.Common.{ap, ◌∙◌, inl, inr, ⊎_elim, arith, add-zero, add-suc, eq-or-lt_of_le, le_of_suc-le-suc, mod-eq_of_lt, eqb→eq, lt-ltb, le-ltb}
use Rattle.std.proofs.Math.Option.{none, some}
use Rattle.std.proofs.Math.Nat.{mul-add-div, div-eq_of_lt, mul-add-mod_self_left}
use Rattle.std.proofs.Math.Dec.{eqb_refl}
use Rattle.model.specs.Tests.{some?, every?, count_below, has, keep_only, up_from}
use Rattle.tables.specs.Laws.Facts.{true_false, lt_or_le}

-- joined tests
pub and→ : (a b : Bool) → T (a && b) → T a × T b
and→ true b t = (tt, t)
and→ false b t = absurd t

pub →and : (a b : Bool) → T a → T b → T (a && b)
→and true b p q = q
→and false b p q = p

pub and_false : (a : Bool) → (a && false) ≡ false
and_false true = refl
and_false false = refl

pub or→ : (a b : Bool) → T (a || b) → T a ⊎ T b
or→ true b t = inl tt
or→ false b t = inr t

pub →or : (a b : Bool) → T a ⊎ T b → T (a || b)
→or true b d = tt
→or false b (inl p) = absurd p
→or false b (inr q) = q

pub or_false : (a b : Bool) → (a || b) ≡ false → (a ≡ false) × (b ≡ false)
or_false true b e = let z : ◌≡◌ {A = ℕ} 0 1 = cc in absurd (omega arith)
or_false false b e = (refl, e)

pub →T : (b : Bool) → b ≡ true → T b
→T b e = rw e tt

pub T→ : (b : Bool) → T b → b ≡ true
T→ true t = refl
T→ false t = absurd t

pub not→ : (b : Bool) → (T b → ⊥) → b ≡ false
not→ true n = absurd (n tt)
not→ false n = refl

-- two tests that pass together are equal
pub same_test : (a b : Bool) → (T a → T b) → (T b → T a) → a ≡ b
same_test true true f g = refl
same_test true false f g = absurd (f tt)
same_test false true f g = absurd (g tt)
same_test false false f g = refl

pub →eqb : (a b : ℕ) → a ≡ b → T (eqb a b)
→eqb a b e = rw e (eqb_refl b)

-- a statement that holds or fails
pub T? : (b : Bool) → T b ⊎ (T b → ⊥)
T? true = inl tt
T? false = inr (λ t. t)

pub <? : (a b : ℕ) → (a < b) ⊎ (a < b → ⊥)
<? a b = ⊎_elim (λ h. inl h) (λ h. inr (λ l. omega arith)) (lt_or_le a b)

-- some and every
pub some→ : (n : ℕ) (f : ℕ → Bool) → T (some? n f) → (i : ℕ) × (i < n) × T (f i)
some→ zero f t = absurd t
some→ (suc n) f t = go (λ u. some→ n f u) (or→ (some? n f) (f n) t)
  where
    go : (T (some? n f) → (i : ℕ) × (i < n) × T (f i)) → T (some? n f) ⊎ T (f n) → (i : ℕ) × (i < suc n) × T (f i)
    go ih (inl u) = let r = ih u in (r.0, omega arith, r.2)
    go ih (inr u) = (n, omega arith, u)

pub →some : (n : ℕ) (f : ℕ → Bool) (i : ℕ) → i < n → T (f i) → T (some? n f)
→some zero f i h u = omega arith
→some (suc n) f i h u = →or (some? n f) (f n) (go (λ h. →some n f i h u) (eq-or-lt_of_le (le_of_suc-le-suc h)))
  where
    go : (i < n → T (some? n f)) → (i ≡ n) ⊎ (i < n) → T (some? n f) ⊎ T (f n)
    go ih (inl e) = inr (rw e at u)
    go ih (inr h) = inl (ih h)

pub none_passes : (n : ℕ) (f : ℕ → Bool) → some? n f ≡ false → (i : ℕ) → i < n → f i ≡ false
none_passes n f e i h = not→ (f i) (λ t. true_false (T→ (some? n f) (→some n f i h t)) e)

pub every→ : (n : ℕ) (f : ℕ → Bool) → T (every? n f) → (i : ℕ) → i < n → T (f i)
every→ zero f t i h = absurd (omega arith)
every→ (suc n) f t i h = go (λ h. every→ n f (and→ (every? n f) (f n) t).0 i h) (eq-or-lt_of_le (le_of_suc-le-suc h))
  where
    go : (i < n → T (f i)) → (i ≡ n) ⊎ (i < n) → T (f i)
    go ih (inl e) = rw e (and→ (every? n f) (f n) t).1
    go ih (inr h) = ih h

pub →every : (n : ℕ) (f : ℕ → Bool) → ((i : ℕ) → i < n → T (f i)) → T (every? n f)
→every zero f all = tt
→every (suc n) f all = →and (every? n f) (f n) (→every n f (λ i h. all i (omega arith))) (all n (omega arith))

-- tests that agree below n count alike
pub count_same : (n : ℕ) (f g : ℕ → Bool) → ((i : ℕ) → i < n → f i ≡ g i) → count_below n f ≡ count_below n g
count_same zero f g same = refl
count_same (suc n) f g same = let e = count_same n f g (λ i h. same i (omega arith)) in let d = same n (omega arith) in rw (e, d) refl

-- a test that nothing passes counts none; and a count goes on behind the first m numbers
pub count_none : (n : ℕ) (f : ℕ → Bool) → ((i : ℕ) → i < n → f i ≡ false) → count_below n f ≡ 0
count_none zero f fails = refl
count_none (suc n) f fails = let e = count_none n f (λ i h. fails i (omega arith)) in let d = fails n (omega arith) in rw (e, d) refl

pub count_add : (m k : ℕ) (f : ℕ → Bool) → count_below (m + k) f ≡ count_below m f + count_below k (λ i. f (m + i))
count_add m zero f = rw (add-zero m) (omega arith)
count_add m (suc k) f = rw (add-suc m k, count_add m k f) (omega arith)

-- a test that passes wherever another does counts no fewer, and more where it passes at a number at which the other does not
one_most : (a b : Bool) → (T a → T b) → cond a 1 0 ≤ cond b 1 0
one_most true true h = omega arith
one_most true false h = absurd (h tt)
one_most false b h = omega arith

one_more : (a b : Bool) → (T a → ⊥) → T b → cond a 1 0 < cond b 1 0
one_more true b h t = absurd (h tt)
one_more false true h t = omega arith
one_more false false h t = absurd t

pub count_most : (n : ℕ) (f g : ℕ → Bool) → ((i : ℕ) → i < n → T (f i) → T (g i)) → count_below n f ≤ count_below n g
count_most zero f g to = omega arith
count_most (suc n) f g to = omega (arith, count_most n f g (λ i h. to i (omega arith)), one_most (f n) (g n) (to n (omega arith)))

pub count_less : (n : ℕ) (f g : ℕ → Bool) → ((i : ℕ) → i < n → T (f i) → T (g i)) → (i : ℕ) → i < n → (T (f i) → ⊥) → T (g i) → count_below n f < count_below n g
count_less zero f g to i l out has = absurd (omega arith)
count_less (suc n) f g to i l out has =
    ⊎_elim
    (λ (h : i < n). omega (arith, count_less n f g (λ j k. to j (omega arith)) i h out has, one_most (f n) (g n) (to n (omega arith))))
    (λ (le : n ≤ i).
    let e : i ≡ n = omega arith in
    omega (arith, count_most n f g (λ j h. to j (omega arith)), one_more (f n) (g n) (rw e at out) (rw e at has)))
    (lt_or_le i n)

-- a count is no more than the numbers it looks at
pub count_bound : (n : ℕ) (f : ℕ → Bool) → count_below n f ≤ n
count_bound zero f = omega arith
count_bound (suc n) f = go (f n) (count_bound n f)
  where
    go : (b : Bool) → count_below n f ≤ n → count_below n f + cond b 1 0 ≤ suc n
    go true h = omega arith
    go false h = omega arith

-- a test that passes once at most counts 1 where it passes at all
pub count_once : (n : ℕ) (f : ℕ → Bool) → ((i j : ℕ) → i < j → j < n → T (f i) → T (f j) → ⊥) → count_below n f ≡ cond (some? n f) 1 0
count_once zero f once = refl
count_once (suc n) f once =
    ap (λ (m : ℕ). m + cond (f n) 1 0) (count_once n f (λ i j l h. once i j l (omega arith)))
    ∙ go (some? n f) (f n) (λ t u. let found = some→ n f t in once found.0 n found.1 (omega arith) found.2 u)
  where
    go : (a b : Bool) → (T a → T b → ⊥) → cond a 1 0 + cond b 1 0 ≡ cond (a || b) 1 0
    go true true never = absurd (never tt tt)
    go true false never = refl
    go false b never = omega arith

-- the numbers below n that fail a test, and all that pass it, where none passes from n on
pub count_rest : (m n : ℕ) (f : ℕ → Bool) → n ≤ m → ((i : ℕ) → T (f i) → i < n) → count_below m (λ i. ltb i n && not (f i)) + count_below m f ≡ n
count_rest m n f h below = go (count_below m (λ i. ltb i n && not (f i))) (count_below m f) (both m)
  where
    go : (a b : ℕ) → a + b ≡ min m n → a + b ≡ n
    go a b e = omega arith

    step : (k a b : ℕ) (t : Bool) → (T t → k < n) → a + b ≡ min k n → (a + cond (ltb k n && not t) 1 0) + (b + cond t 1 0) ≡ min (suc k) n
    step k a b true in-range e = let h = in-range tt in rw (lt-ltb k n h) (omega arith)
    step k a b false in-range e = ⊎_elim (λ h. rw (lt-ltb k n h) (omega arith)) (λ h. rw (le-ltb k n h) (omega arith)) (lt_or_le k n)

    both : (k : ℕ) → count_below k (λ i. ltb i n && not (f i)) + count_below k f ≡ min k n
    both zero = omega arith
    both (suc k) = step k (count_below k (λ i. ltb i n && not (f i))) (count_below k f) (f k) (below k) (both k)

-- A COUNT OVER PAIRS, in rows of w, goes on by the row of n
pub count_row : (w n : ℕ) (f : ℕ → ℕ → Bool) → 0 < w
    → count_below (w * n + w) (λ i. f (i / w) (i % w)) ≡ count_below (w * n) (λ i. f (i / w) (i % w)) + count_below w (f n)
count_row w n f h =
    count_add (w * n) w (λ i. f (i / w) (i % w))
    ∙ ap (λ (m : ℕ). count_below (w * n) (λ i. f (i / w) (i % w)) + m)
    (count_same w (λ k. f ((w * n + k) / w) ((w * n + k) % w)) (f n)
    (λ k l.
    let q : (w * n + k) / w ≡ n = mul-add-div h n k ∙ ap (λ (m : ℕ). n + m) (div-eq_of_lt l) ∙ add-zero n in
    let r : (w * n + k) % w ≡ k = mul-add-mod_self_left w n k ∙ mod-eq_of_lt l in
    rw (q, r) refl))

-- members of lists
pub has→ : (d : ℕ) (xs : List ℕ) (s : ℕ) → T (has xs s) → (k : ℕ) × (k < length xs) × (get_or xs k d ≡ s)
has→ d [] s t = absurd t
has→ d (x ∷ xs) s t = go (λ u. has→ d xs s u) (or→ (eqb x s) (has xs s) t)
  where
    go : (T (has xs s) → (k : ℕ) × (k < length xs) × (get_or xs k d ≡ s)) → T (eqb x s) ⊎ T (has xs s) → (k : ℕ) × (k < length (x ∷ xs)) × (get_or (x ∷ xs) k d ≡ s)
    go ih (inl q) = (0, omega arith, eqb→eq x s q)
    go ih (inr u) = let r = ih u in let l = r.1 in (suc r.0, omega arith, r.2)

pub →has : (d : ℕ) (xs : List ℕ) (s k : ℕ) → k < length xs → get_or xs k d ≡ s → T (has xs s)
→has d [] s k h e = absurd (omega arith)
→has d (x ∷ xs) s zero h e = →or (eqb x s) (has xs s) (inl (→eqb x s e))
→has d (x ∷ xs) s (suc k) h e = →or (eqb x s) (has xs s) (inr (→has d xs s k (omega arith) e))

pub keep→ : (f : ℕ → Bool) (xs : List ℕ) (s : ℕ) → T (has (keep_only f xs) s) → T (has xs s) × T (f s)
keep→ f [] s t = absurd t
keep→ f (x ∷ xs) s t = go (f x) refl (λ u. keep→ f xs s u) t
  where
    go : (b : Bool) → f x ≡ b → (T (has (keep_only f xs) s) → T (has xs s) × T (f s)) → T (has (cond b (x ∷ keep_only f xs) (keep_only f xs)) s) → T (has (x ∷ xs) s) × T (f s)
    go true e ih t = first (or→ (eqb x s) (has (keep_only f xs) s) t)
      where
        first : T (eqb x s) ⊎ T (has (keep_only f xs) s) → T (has (x ∷ xs) s) × T (f s)
        first (inl q) = (→or (eqb x s) (has xs s) (inl q), rw (eqb→eq x s q) at (→T (f x) e))
        first (inr u) = let r = ih u in (→or (eqb x s) (has xs s) (inr r.0), r.1)
    go false e ih t = let r = ih t in (→or (eqb x s) (has xs s) (inr r.0), r.1)

pub →keep : (f : ℕ → Bool) (xs : List ℕ) (s : ℕ) → T (has xs s) → T (f s) → T (has (keep_only f xs) s)
→keep f [] s t u = t
→keep f (x ∷ xs) s t u = go (f x) refl (λ v. →keep f xs s v u) (or→ (eqb x s) (has xs s) t)
  where
    go : (b : Bool) → f x ≡ b → (T (has xs s) → T (has (keep_only f xs) s)) → T (eqb x s) ⊎ T (has xs s) → T (has (cond b (x ∷ keep_only f xs) (keep_only f xs)) s)
    go true e ih (inl q) = →or (eqb x s) (has (keep_only f xs) s) (inl q)
    go true e ih (inr v) = →or (eqb x s) (has (keep_only f xs) s) (inr (ih v))
    go false e ih (inl q) = let d = eqb→eq x s q in absurd (true_false (T→ (f x) (rw d u)) e)
    go false e ih (inr v) = ih v

pub has_up_from : (i n s : ℕ) → T (has (up_from i n) s) → s < i + n
has_up_from i zero s t = absurd t
has_up_from i (suc n) s t = go (λ u. has_up_from (suc i) n s u) (or→ (eqb i s) (has (up_from (suc i) n) s) t)
  where
    go : (T (has (up_from (suc i) n) s) → s < suc i + n) → T (eqb i s) ⊎ T (has (up_from (suc i) n) s) → s < i + suc n
    go ih (inl e) = omega (arith, eqb→eq i s e)
    go ih (inr u) = omega (arith, ih u)

pub up_from_has : (i n s : ℕ) → i ≤ s → s < i + n → T (has (up_from i n) s)
up_from_has i zero s h h' = omega arith
up_from_has i (suc n) s h h' = →or (eqb i s) (has (up_from (suc i) n) s) (go (λ h. up_from_has (suc i) n s h (omega arith)) (eq-or-lt_of_le h))
  where
    go : (suc i ≤ s → T (has (up_from (suc i) n) s)) → (i ≡ s) ⊎ (i < s) → T (eqb i s) ⊎ T (has (up_from (suc i) n) s)
    go ih (inl e) = inl (→eqb i s e)
    go ih (inr h) = inr (ih h)

-- nothing is something
pub none_some : {B : Type 0} {a : B} {A : Type 0} → none ≡ some a → A
none_some e = let z : ◌≡◌ {A = ℕ} 0 1 = cc in absurd (omega arith)
