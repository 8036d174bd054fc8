-- WHAT THE FILTER FINDS IS EXACTLY WHAT IS VIABLE. No pass takes a slot of a self-supporting set out, and when no pass takes anything out what is left
-- supports itself; as many passes as there are slots come to that point. Assumes nothing.
use Rattle.std.specs.Prelude.{◌≡◌, refl, Bool, true, false, not, ◌&&◌, ◌||◌, cond, List, [], ◌∷◌, ◌↔◌, ◌⊎◌, ℕ, zero, suc, ◌<◌, ◌≤◌, ◌+◌, length, get_or, T, eqb}
use Rattle.std.proofs.Common.{ap, ◌∙◌, inl, inr, arith, add-zero, add-suc, suc-add, zero-add, le_of_suc-le-suc, eqb→eq, T_not}
use Rattle.std.proofs.Math.Option.{Option, none, some}
use Rattle.std.proofs.Math.Dec.{not_T}
use Rattle.model.specs.Board.{Rule, Board, call_at, slot_at, cancelled_on?, slots_on, InForce, active?, Active, InScope, Holds, Within, Supported, SelfSupporting, Passing, Viable, ViableInAny}
use Rattle.model.specs.Tests.{up_from, keep_only}
use Rattle.model.specs.Filter.{in?, in_scope?, holds?, within?, supported?, admits?, all?, kept?, pass_from, pass, passes, slots_from, all_slots, size, open_of}
use Rattle.model.proofs.Laws.Tests.{and→, →and, or→, →or, T?, some→, →some, every→, →every, →eqb, keep→, →keep, has_up_from, up_from_has}
use Rattle.model.proofs.Laws.Theory.{active_below, numbered}

-- the slots that are left, as a set
abbrev pub In : List (List ℕ) → ℕ → ℕ → Type 0
In left = Passing (in? left)

-- THE TESTS ARE RIGHT
module _ (B : Board) (r : Rule) where
  holds→ : (w c s : ℕ) → T (holds? B r w c s) → Holds B r w c s
  holds→ w c s t =
      let u = some→ (length r.scope) (λ k. active? B r k && (eqb (call_at r k) c && eqb (slot_at r w k) s)) t in
      let k = u.0 in
      let b = and→ (active? B r k) (eqb (call_at r k) c && eqb (slot_at r w k) s) u.2 in
      let d = and→ (eqb (call_at r k) c) (eqb (slot_at r w k) s) b.1 in
      record { column = k; active = b.0; call = eqb→eq (call_at r k) c d.0; slot = eqb→eq (slot_at r w k) s d.1 }

  →holds : (w c s : ℕ) → Holds B r w c s → T (holds? B r w c s)
  →holds w c s h =
      let k = h.column in
      →some (length r.scope) (λ k. active? B r k && (eqb (call_at r k) c && eqb (slot_at r w k) s)) k (active_below B r k h.active)
      (→and (active? B r k) (eqb (call_at r k) c && eqb (slot_at r w k) s) h.active
      (→and (eqb (call_at r k) c) (eqb (slot_at r w k) s) (→eqb (call_at r k) c h.call) (→eqb (slot_at r w k) s h.slot)))

  pub on_call→ : (c : ℕ) → T (in_scope? B r c) → InScope B r c
  on_call→ c t =
      let u = some→ (length r.scope) (λ k. active? B r k && eqb (call_at r k) c) t in
      let b = and→ (active? B r u.0) (eqb (call_at r u.0) c) u.2 in
      record { column = u.0; active = b.0; call = eqb→eq (call_at r u.0) c b.1 }

  pub →on_call : (c : ℕ) → InScope B r c → T (in_scope? B r c)
  →on_call c o =
      let k = o.column in
      →some (length r.scope) (λ k. active? B r k && eqb (call_at r k) c) k (active_below B r k o.active)
      (→and (active? B r k) (eqb (call_at r k) c) o.active (→eqb (call_at r k) c o.call))

  module _ (left : List (List ℕ)) where
    pub within→ : (w : ℕ) → T (within? B left r w) → Within B (In left) r w
    within→ w t k n =
        go (or→ (not (active? B r k)) (in? left (call_at r k) (slot_at r w k))
        (every→ (length r.scope) (λ k. not (active? B r k) || in? left (call_at r k) (slot_at r w k)) t k (active_below B r k n)))
      where
        go : T (not (active? B r k)) ⊎ In left (call_at r k) (slot_at r w k) → In left (call_at r k) (slot_at r w k)
        go (inl f) = absurd (T_not (active? B r k) f n)
        go (inr i) = i

    →within : (A : ℕ → ℕ → Type 0) → ((c s : ℕ) → A c s → In left c s) → (w : ℕ) → Within B A r w → T (within? B left r w)
    →within A sub w a =
        →every (length r.scope) (λ k. not (active? B r k) || in? left (call_at r k) (slot_at r w k))
        (λ k h. →or (not (active? B r k)) (in? left (call_at r k) (slot_at r w k)) (go k (T? (active? B r k))))
      where
        go : (k : ℕ) → Active B r k ⊎ (Active B r k → ⊥) → T (not (active? B r k)) ⊎ In left (call_at r k) (slot_at r w k)
        go k (inl n) = inr (sub (call_at r k) (slot_at r w k) (a k n))
        go k (inr f) = inl (not_T (active? B r k) f)

    supported→ : (c s : ℕ) → T (supported? B left r c s) → Supported B (In left) r c s
    supported→ c s t =
        let u = some→ (length r.rows) (λ w. holds? B r w c s && within? B left r w) t in
        let b = and→ (holds? B r u.0 c s) (within? B left r u.0) u.2 in
        record { row = u.0; inside = u.1; holds = holds→ u.0 c s b.0; within = within→ u.0 b.1 }

    →supported : (A : ℕ → ℕ → Type 0) → ((c s : ℕ) → A c s → In left c s) → (c s : ℕ) → Supported B A r c s → T (supported? B left r c s)
    →supported A sub c s u =
        →some (length r.rows) (λ w. holds? B r w c s && within? B left r w) u.row u.inside
        (→and (holds? B r u.row c s) (within? B left r u.row) (→holds u.row c s u.holds) (→within A sub u.row u.within))

pub all→ : (f : Option Rule → Bool) (xs : List (Option Rule)) → T (all? f xs) → (p : ℕ) → p < length xs → T (f (get_or xs p none))
all→ f [] t p h = absurd (omega arith)
all→ f (x ∷ xs) t zero h = (and→ (f x) (all? f xs) t).0
all→ f (x ∷ xs) t (suc p) h = all→ f xs (and→ (f x) (all? f xs) t).1 p (le_of_suc-le-suc h)

→all : (f : Option Rule → Bool) (xs : List (Option Rule)) → ((p : ℕ) → p < length xs → T (f (get_or xs p none))) → T (all? f xs)
→all f [] g = tt
→all f (x ∷ xs) g = →and (f x) (all? f xs) (g 0 (omega arith)) (→all f xs (λ p h. g (suc p) (omega arith)))

module _ (B : Board) (left : List (List ℕ)) where
  kept→ : (c s : ℕ) → T (kept? B left c s) → (p : ℕ) (r : Rule) → InForce B p r → InScope B r c → Supported B (In left) r c s
  kept→ c s t p r f o =
      let u : T (admits? B left c s (some r)) = rw f at (all→ (admits? B left c s) B.rules t p (numbered B p r f)) in
      go (or→ (not (in_scope? B r c)) (supported? B left r c s) u)
    where
      go : T (not (in_scope? B r c)) ⊎ T (supported? B left r c s) → Supported B (In left) r c s
      go (inl n) = absurd (T_not (in_scope? B r c) n (→on_call B r c o))
      go (inr u) = supported→ B r left c s u

  →kept : (c s : ℕ) → ((p : ℕ) (r : Rule) → InForce B p r → InScope B r c → T (supported? B left r c s)) → T (kept? B left c s)
  →kept c s all = →all (admits? B left c s) B.rules (λ p h. go (get_or B.rules p none) (λ r f. all p r f))
    where
      go : (x : Option Rule) → ((r : Rule) → x ≡ some r → InScope B r c → T (supported? B left r c s)) → T (admits? B left c s x)
      go none f = tt
      go (some r) f = →or (not (in_scope? B r c)) (supported? B left r c s) (either (T? (in_scope? B r c)))
        where
          either : T (in_scope? B r c) ⊎ (T (in_scope? B r c) → ⊥) → T (not (in_scope? B r c)) ⊎ T (supported? B left r c s)
          either (inl o) = inr (f r refl (on_call→ B r c o))
          either (inr n) = inl (not_T (in_scope? B r c) n)

  -- A PASS keeps the slots that were left and that every rule in force on their call supports
  get_or_pass : (c : ℕ) (rest : List (List ℕ)) (i : ℕ) → get_or (pass_from B left c rest) i [] ≡ keep_only (kept? B left (c + i)) (get_or rest i [])
  get_or_pass c [] i = refl
  get_or_pass c (xs ∷ rest) zero = rw (add-zero c)
  get_or_pass c (xs ∷ rest) (suc i) = rw (add-suc c i, ← suc-add c i) (get_or_pass (suc c) rest i)

  pass_at : (c : ℕ) → get_or (pass B left) c [] ≡ keep_only (kept? B left c) (get_or left c [])
  pass_at c = get_or_pass 0 left c ∙ rw (zero-add c)

  pass→ : (c s : ℕ) → In (pass B left) c s → In left c s × T (kept? B left c s)
  pass→ c s t = keep→ (kept? B left c) (get_or left c []) s (rw (pass_at c) at t)

  →pass : (c s : ℕ) → In left c s → T (kept? B left c s) → In (pass B left) c s
  →pass c s t u = rw (pass_at c) (→keep (kept? B left c) (get_or left c []) s t u)

-- a pass that takes nothing out changes nothing, and one that takes something out leaves less
keep_size : (f : ℕ → Bool) (xs : List ℕ) → (keep_only f xs ≡ xs) ⊎ (length (keep_only f xs) < length xs)
keep_size f [] = inl refl
keep_size f (x ∷ xs) = go (f x) (keep_size f xs)
  where
    go : (b : Bool) → (keep_only f xs ≡ xs) ⊎ (length (keep_only f xs) < length xs)
        → (cond b (x ∷ keep_only f xs) (keep_only f xs) ≡ x ∷ xs) ⊎ (length (cond b (x ∷ keep_only f xs) (keep_only f xs)) < suc (length xs))
    go true (inl e) = inl (ap (λ (l : List ℕ). x ∷ l) e)
    go true (inr h) = inr (omega arith)
    go false (inl e) = inr (rw e (omega arith))
    go false (inr h) = inr (omega arith)

pass_size : (B : Board) (left : List (List ℕ)) (c : ℕ) (rest : List (List ℕ)) → (pass_from B left c rest ≡ rest) ⊎ (size (pass_from B left c rest) < size rest)
pass_size B left c [] = inl refl
pass_size B left c (xs ∷ rest) = go (keep_size (kept? B left c) xs) (pass_size B left (suc c) rest)
  where
    ys : List ℕ
    ys = keep_only (kept? B left c) xs

    more : List (List ℕ)
    more = pass_from B left (suc c) rest

    go : (ys ≡ xs) ⊎ (length ys < length xs) → (more ≡ rest) ⊎ (size more < size rest) → (ys ∷ more ≡ xs ∷ rest) ⊎ (length ys + size more < length xs + size rest)
    go (inl e) (inl e') = inl (cc)
    go (inl e) (inr h) = inr (rw e (omega arith))
    go (inr h) (inl e') = inr (rw e' (omega arith))
    go (inr h) (inr h') = inr (omega arith)

still : (B : Board) (n : ℕ) (left : List (List ℕ)) → pass B left ≡ left → passes n B left ≡ left
still B zero left e = refl
still B (suc n) left e = rw e (still B n left e)

settles : (B : Board) (n : ℕ) (left : List (List ℕ)) → size left ≤ n → pass B (passes n B left) ≡ passes n B left
settles B zero left h = go (pass_size B left 0 left)
  where
    go : (pass B left ≡ left) ⊎ (size (pass B left) < size left) → pass B left ≡ left
    go (inl e) = e
    go (inr h') = absurd (omega arith)
settles B (suc n) left h = go (λ h. settles B n (pass B left) h) (pass_size B left 0 left)
  where
    go : (size (pass B left) ≤ n → pass B (passes n B (pass B left)) ≡ passes n B (pass B left)) → (pass B left ≡ left) ⊎ (size (pass B left) < size left)
        → pass B (passes n B (pass B left)) ≡ passes n B (pass B left)
    go ih (inl e) = rw (e, still B n left e) e
    go ih (inr h') = ih (omega arith)

get_or_from : (B : Board) (c : ℕ) (ns : List ℕ) (i : ℕ) → get_or (slots_from B c ns) i [] ≡ up_from 0 (cond (cancelled_on? B (c + i)) 0 (get_or ns i 0))
get_or_from B c [] i = go (cancelled_on? B (c + i))
  where
    go : (b : Bool) → [] ≡ up_from 0 (cond b 0 0)
    go true = refl
    go false = refl
get_or_from B c (n ∷ ns) zero = rw (add-zero c)
get_or_from B c (n ∷ ns) (suc i) = rw (add-suc c i, ← suc-add c i) (get_or_from B (suc c) ns i)

get_or_all : (B : Board) (c : ℕ) → get_or (all_slots B) c [] ≡ up_from 0 (slots_on B c)
get_or_all B c = get_or_from B 0 B.counts c ∙ rw (zero-add c)

-- WHAT IS FOUND: every self-supporting set lies in it, and it is one
inside : (B : Board) (A : ℕ → ℕ → Type 0) → SelfSupporting B A → (n : ℕ) (left : List (List ℕ)) → ((c s : ℕ) → A c s → In left c s)
    → (c s : ℕ) → A c s → In (passes n B left) c s
inside B A self zero left sub = sub
inside B A self (suc n) left sub =
    inside B A self n (pass B left)
    (λ c s a. →pass B left c s (sub c s a) (→kept B left c s (λ p r f o. →supported B r left A sub c s (self.support c s a p r f o))))

passes_in : (B : Board) (n : ℕ) (left : List (List ℕ)) (c s : ℕ) → In (passes n B left) c s → In left c s
passes_in B zero left c s t = t
passes_in B (suc n) left c s t = (pass→ B left c s (passes_in B n (pass B left) c s t)).0

module _ (B : Board) where
  pub found_self : SelfSupporting B (Passing (in? (open_of B)))
  found_self =
      let n = size (all_slots B) in
      record {
        slots = λ c s t. omega (arith, has_up_from 0 (slots_on B c) s (rw (get_or_all B c) at (passes_in B n (all_slots B) c s t)));
        support = λ c s t. kept→ B (open_of B) c s (pass→ B (open_of B) c s (rw (settles B n (all_slots B) (omega arith)) t)).1;
      }

  pub found_all : (A : ℕ → ℕ → Type 0) → SelfSupporting B A → (c s : ℕ) → A c s → T (in? (open_of B) c s)
  found_all A self =
      inside B A self (size (all_slots B)) (all_slots B)
      (λ c s a. rw (get_or_all B c) (up_from_has 0 (slots_on B c) s (omega arith) (omega (arith, self.slots c s a))))

  -- THE FILTER IS RIGHT
  pub found_viable : (c s : ℕ) → T (in? (open_of B) c s) ↔ Viable B c s
  found_viable c s = (λ t. record { set = in? (open_of B); self = found_self; has = t }, λ v. found_all (Passing v.set) v.self c s v.has)

  -- sets with a test are enough: what is in any self-supporting set is in one that has a test
  pub viable_in_any : (c s : ℕ) → Viable B c s ↔ ViableInAny B c s
  viable_in_any c s = (
    λ v. record { set = Passing v.set; self = v.self; has = v.has },
    λ v. (found_viable c s).0 (found_all v.set v.self c s v.has),
  )
