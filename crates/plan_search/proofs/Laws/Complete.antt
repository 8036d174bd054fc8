-- SOUND AND COMPLETE, over any task: what every plan that is found keeps, and that no plan is passed over. Assumes nothing.
use Rattle.std.specs.Prelude.{◌≡◌, refl, Bool, true, false, cond, List, ◌⊎◌, ℕ, zero, suc, ◌+◌, ◌<◌, ◌≤◌, length, set}
use Rattle.std.proofs.Common.{ap, ◌∙◌, inl, inr, ⊎_elim, arith, eq-or-lt_of_le, length-set, get_or-set_same, get_or-set_other}
use Rattle.tables.specs.Laws.Facts.{true_false, true_or_false}
use Rattle.model.specs.Board.{no_slot_given}
use Rattle.plan_model.specs.Plans.{slot_in}
use Rattle.plan_search.specs.Search.{Result, found, nothing, after, or_next, Task, tries, search}
use Rattle.plan_search.proofs.Laws.Search.{tries_closed, tries_open, tries_stays, tries_end, search_skips, search_lays, search_end}

-- P holds of the plan where one is found; and one is found, of which P holds
abbrev pub IfFound : (List ℕ → Type 0) → Result → Type 0
IfFound P (found plan n) = P plan
IfFound P (nothing n) = Unit {0}

abbrev pub FoundWith : (List ℕ → Type 0) → Result → Type 0
FoundWith P (found plan n) = P plan
FoundWith P (nothing n) = ⊥

module _ (P : List ℕ → Type 0) where
  if_found_after : (n : ℕ) (r : Result) → IfFound P r → IfFound P (after n r)
  if_found_after n (found plan m) h = h
  if_found_after n (nothing m) h = tt

  if_found_or : (r rest : Result) → IfFound P r → IfFound P rest → IfFound P (after 1 (or_next r rest))
  if_found_or (found plan n) rest h g = h
  if_found_or (nothing n) rest h g = if_found_after 1 (after n rest) (if_found_after n rest g)

  found_with_after : (n : ℕ) (r : Result) → FoundWith P r → FoundWith P (after n r)
  found_with_after n (found plan m) h = h
  found_with_after n (nothing m) h = h

  found_with_rest : (r rest : Result) → IfFound P r → FoundWith P rest → FoundWith P (after 1 (or_next r rest))
  found_with_rest (found plan n) rest h g = h
  found_with_rest (nothing n) rest h g = found_with_after 1 (after n rest) (found_with_after n rest g)

  found_with_first : (r rest : Result) → FoundWith P r → FoundWith P (after 1 (or_next r rest))
  found_with_first (found plan n) rest h = h
  found_with_first (nothing n) rest h = absurd h

  if_found_cond : (b : Bool) (r : Result) → (b ≡ true → IfFound P r) → IfFound P (cond b r (nothing 0))
  if_found_cond true r h = h refl
  if_found_cond false r h = tt

if_found_map : (P Q : List ℕ → Type 0) → ((plan : List ℕ) → P plan → Q plan) → (r : Result) → IfFound P r → IfFound Q r
if_found_map P Q f (found plan n) h = f plan h
if_found_map P Q f (nothing n) h = tt

found_with_map : (P Q : List ℕ → Type 0) → ((plan : List ℕ) → P plan → Q plan) → (r : Result) → FoundWith P r → FoundWith Q r
found_with_map P Q f (found plan n) h = f plan h
found_with_map P Q f (nothing n) h = h

found_with_both : (P Q S : List ℕ → Type 0) → ((plan : List ℕ) → P plan → Q plan → S plan) → (r : Result) → FoundWith P r → IfFound Q r → FoundWith S r
found_with_both P Q S f (found plan n) h g = f plan h g
found_with_both P Q S f (nothing n) h g = h

-- SOUND: what holds of the calls passed and the plan so far, and goes on to hold where a call is skipped and where a slot stays, holds of every plan that is found
module _ (t : Task) where
  module _ (Q : List ℕ → Type 0) (deeper : List ℕ → Result) (c : ℕ) (plan : List ℕ)
      (each : (s : ℕ) → s < 32 → t.opens c s ≡ true → t.stays c (set plan c s) ≡ true → IfFound Q (deeper (set plan c s))) where
    tries_invariant : (m s : ℕ) → s + m ≡ 32 → IfFound Q (tries t deeper c m s plan)
    tries_invariant zero s e = rw (tries_end t deeper c s plan) tt
    tries_invariant (suc m) s e = go (true_or_false (t.opens c s)) (tries_invariant m (suc s) (omega arith))
      where
        go : (t.opens c s ≡ true) ⊎ (t.opens c s ≡ false) → IfFound Q (tries t deeper c m (suc s) plan) → IfFound Q (tries t deeper c (suc m) s plan)
        go (inl o) rest =
            rw (tries_open t deeper c m s plan o)
            (if_found_or Q (cond (t.stays c (set plan c s)) (deeper (set plan c s)) (nothing 0)) (tries t deeper c m (suc s) plan)
            (if_found_cond Q (t.stays c (set plan c s)) (deeper (set plan c s)) (each s (omega arith) o)) rest)
        go (inr o) rest = rw (tries_closed t deeper c m s plan o) rest

  module _ (Inv : ℕ → List ℕ → Type 0)
      (skip : (c : ℕ) (plan : List ℕ) → c < 32 → Inv c plan → t.lays c ≡ false → Inv (suc c) plan)
      (lay : (c s : ℕ) (plan : List ℕ) → c < 32 → s < 32 → Inv c plan → t.lays c ≡ true → t.opens c s ≡ true → t.stays c (set plan c s) ≡ true
      → Inv (suc c) (set plan c s)) where
    pub search_invariant : (n c : ℕ) (plan : List ℕ) → c + n ≡ 32 → Inv c plan → IfFound (Inv 32) (search t n c plan)
    search_invariant zero c plan e i = let z : c ≡ 32 = omega arith in rw (search_end t c plan, ← z) i
    search_invariant (suc n) c plan e i = go (true_or_false (t.lays c)) (λ plan i. search_invariant n (suc c) plan (omega arith) i)
      where
        go : (t.lays c ≡ true) ⊎ (t.lays c ≡ false) → ((plan : List ℕ) → Inv (suc c) plan → IfFound (Inv 32) (search t n (suc c) plan))
            → IfFound (Inv 32) (search t (suc n) c plan)
        go (inl l) ih =
            rw (search_lays t n c plan l)
            (tries_invariant (Inv 32) (λ laid. search t n (suc c) laid) c plan
            (λ s h o st. ih (set plan c s) (lay c s plan (omega arith) h i l o st)) 32 0 refl)
        go (inr l) ih = rw (search_skips t n c plan l) (ih plan (skip c plan (omega arith) i l))

-- WHAT IS BEHIND LEAVES what is before: q has the slots of the plan for the calls below c
pub record Extends (plan : List ℕ) (c : ℕ) (q : List ℕ) : Type 0 where
  pub size : length q ≡ 32
  pub same : (d : ℕ) → d < c → slot_in q d ≡ slot_in plan d

-- and that is said before call d, which c does not come after
record ExtendsAt (plan : List ℕ) (c d : ℕ) (q : List ℕ) : Type 0 where
  there : c ≤ d
  extends : Extends plan c q

search_extends : (t : Task) (n c : ℕ) (plan : List ℕ) → c + n ≡ 32 → length plan ≡ 32 → IfFound (Extends plan c) (search t n c plan)
search_extends t n c plan e size =
    if_found_map (ExtendsAt plan c 32) (Extends plan c) (λ q i. i.extends) (search t n c plan)
    (search_invariant t (ExtendsAt plan c) (λ d q h i l. record { there = omega (arith, i.there); extends = i.extends })
    (λ d s q h ls i l o st.
    record {
      there = omega (arith, i.there);
      extends = record {
        size = length-set q d s ∙ i.extends.size;
        same = λ x lx. get_or-set_other q d x s no_slot_given (λ z. let le = i.there in omega arith) ∙ i.extends.same x lx;
      };
    })
    n c plan e (record { there = omega arith; extends = record { size = size; same = λ d h. refl } }))

-- P gives call c an open slot that stays behind this plan, and Ext holds with it
pub record Layable (t : Task) (P : ℕ → ℕ) (Ext : ℕ → List ℕ → Type 0) (c : ℕ) (plan : List ℕ) : Type 0 where
  pub below : P c < 32
  pub opens : t.opens c (P c) ≡ true
  pub stays : t.stays c (set plan c (P c)) ≡ true
  pub further : Ext (suc c) (set plan c (P c))

-- COMPLETE: no plan P is passed over that gives each call such a slot, where the calls before are laid as it says. Ext says that they are
module _ (t : Task) (P : ℕ → ℕ) where
  -- P does not come before q, on the calls from c on that are laid
  abbrev pub NotBefore : ℕ → List ℕ → Type 0
  NotBefore c q = (d : ℕ) → c ≤ d → d < 32 → t.lays d ≡ true → P d < slot_in q d → ((e : ℕ) → c ≤ e → e < d → P e ≡ slot_in q e) → ⊥

  module _ (Ext : ℕ → List ℕ → Type 0) (skip : (c : ℕ) (plan : List ℕ) → c < 32 → Ext c plan → t.lays c ≡ false → Ext (suc c) plan)
      (lay : (c : ℕ) (plan : List ℕ) → c < 32 → Ext c plan → t.lays c ≡ true → Layable t P Ext c plan) where
    module _ (n c : ℕ) (plan : List ℕ) (e : suc c + n ≡ 32) (size : length plan ≡ 32) (can : Layable t P Ext c plan)
        (there : FoundWith (NotBefore (suc c)) (search t n (suc c) (set plan c (P c)))) where
      abbrev deeper : List ℕ → Result
      deeper = λ laid. search t n (suc c) laid

      -- what is found behind slot s has it
      has_slot : (s : ℕ) → s < 32 → IfFound (λ q. slot_in q c ≡ s) (deeper (set plan c s))
      has_slot s h =
          if_found_map (Extends (set plan c s) (suc c)) (λ q. slot_in q c ≡ s)
          (λ q f. f.same c (omega arith) ∙ get_or-set_same plan c s no_slot_given (omega arith)) (deeper (set plan c s))
          (search_extends t n (suc c) (set plan c s) e (length-set plan c s ∙ size))

      -- with P's own slot it is for the calls behind; with a lower one P is past
      own_slot : (q : List ℕ) → NotBefore (suc c) q → slot_in q c ≡ P c → NotBefore c q
      own_slot q nb same d le h l lt before =
          ⊎_elim (λ (x : c ≡ d). let g = ap P x in let g' = ap (slot_in q) x in omega arith)
          (λ x. nb d x h l lt (λ e le' h'. before e (omega arith) h')) (eq-or-lt_of_le le)

      lower_slot : (q : List ℕ) (s : ℕ) → s < P c → slot_in q c ≡ s → NotBefore c q
      lower_slot q s ls same d le h l lt before =
          ⊎_elim (λ (x : c ≡ d). let g = ap P x in let g' = ap (slot_in q) x in omega arith)
          (λ x. let b = before c (omega arith) x in omega arith) (eq-or-lt_of_le le)

      tries_complete : (m s : ℕ) → s + m ≡ 32 → s ≤ P c → FoundWith (NotBefore c) (tries t deeper c m s plan)
      tries_complete zero s z le = let small = can.below in absurd (omega arith)
      tries_complete (suc m) s z le = go (eq-or-lt_of_le le) (λ lt. tries_complete m (suc s) (omega arith) lt)
        where
          go : (s ≡ P c) ⊎ (s < P c) → (s < P c → FoundWith (NotBefore c) (tries t deeper c m (suc s) plan))
              → FoundWith (NotBefore c) (tries t deeper c (suc m) s plan)
          go (inl x) ih =
              rw (x, tries_stays t deeper c m (P c) plan can.opens can.stays)
              (found_with_first (NotBefore c) (deeper (set plan c (P c))) (tries t deeper c m (suc (P c)) plan)
              (found_with_both (NotBefore (suc c)) (λ q. slot_in q c ≡ P c) (NotBefore c) own_slot (deeper (set plan c (P c))) there (has_slot (P c) can.below)))
          go (inr x) ih = by (true_or_false (t.opens c s)) (ih x)
            where
              behind : IfFound (NotBefore c) (deeper (set plan c s))
              behind =
                  if_found_map (λ q. slot_in q c ≡ s) (NotBefore c) (λ q same. lower_slot q s x same) (deeper (set plan c s)) (has_slot s (omega arith))

              by : (t.opens c s ≡ true) ⊎ (t.opens c s ≡ false) → FoundWith (NotBefore c) (tries t deeper c m (suc s) plan)
                  → FoundWith (NotBefore c) (tries t deeper c (suc m) s plan)
              by (inl o) rest =
                  rw (tries_open t deeper c m s plan o)
                  (found_with_rest (NotBefore c) (cond (t.stays c (set plan c s)) (deeper (set plan c s)) (nothing 0)) (tries t deeper c m (suc s) plan)
                  (if_found_cond (NotBefore c) (t.stays c (set plan c s)) (deeper (set plan c s)) (λ st. behind)) rest)
              by (inr o) rest = rw (tries_closed t deeper c m s plan o) rest

    pub search_complete : (n c : ℕ) (plan : List ℕ) → c + n ≡ 32 → length plan ≡ 32 → Ext c plan → FoundWith (NotBefore c) (search t n c plan)
    search_complete zero c plan e size x = rw (search_end t c plan) (λ d le h l lt before. omega arith)
    search_complete (suc n) c plan e size x =
        go (true_or_false (t.lays c)) (λ plan size x. search_complete n (suc c) plan (omega arith) size x)
      where
        go : (t.lays c ≡ true) ⊎ (t.lays c ≡ false)
            → ((plan : List ℕ) → length plan ≡ 32 → Ext (suc c) plan → FoundWith (NotBefore (suc c)) (search t n (suc c) plan))
            → FoundWith (NotBefore c) (search t (suc n) c plan)
        go (inl l) ih =
            let can = lay c plan (omega arith) x l in
            rw (search_lays t n c plan l)
            (tries_complete n c plan (omega arith) size can (ih (set plan c (P c)) (length-set plan c (P c) ∙ size) can.further) 32 0 refl (omega arith))
        go (inr l) ih =
            rw (search_skips t n c plan l)
            (found_with_map (NotBefore (suc c)) (NotBefore c)
            (λ q nb d le h ld lt before.
            ⊎_elim (λ (z : c ≡ d). true_false (rw (← z) at ld) l) (λ z. nb d z h ld lt (λ e le' h'. before e (omega arith) h')) (eq-or-lt_of_le le))
            (search t n (suc c) plan) (ih plan size (skip c plan (omega arith) x l)))
