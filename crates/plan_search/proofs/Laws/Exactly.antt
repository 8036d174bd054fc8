-- WHAT AN ANSWER THAT KEEPS THE PROMISE SAYS (SCOPE 5.9, 5.10), whatever code gave it: each "exactly when" both ways, and that its meaning settles it. Assumes nothing.
use Rattle.std.specs.Prelude.{◌≡◌, refl, false, ◌&&◌, List, ◌↔◌, ◌⊎◌, ℕ, zero, suc, ◌<◌, ◌≤◌, length, ltb, Ok, Err}
use Rattle.std.proofs.Common.{sym, ap, subst, ◌∙◌, inl, inr, ⊎_elim, arith, ext_get_or, ltb→lt, le-leb}
use Rattle.tables.specs.Laws.Facts.{eq_or_ne, lt_or_le}
use Rattle.layout.specs.Memory.{State, lent_of}
use Rattle.model.specs.Board.{Board, live?, Cancelled, FullPlan, no_slot_given}
use Rattle.model.specs.Ledger.{Ledger, LedgerShape}
use Rattle.model.specs.Representation.{Represents}
use Rattle.model.specs.Refusals.{first_of}
use Rattle.model.specs.Questions.{board_conditions}
use Rattle.model.proofs.Laws.Tests.{and→, not→}
use Rattle.model.proofs.Laws.Theory.{live_not}
use Rattle.plan_model.specs.Plans.{plan_size, slot_in}
use Rattle.plan_search.specs.declared.answer.FirstPlan.{FirstPlan}
use Rattle.plan_search.specs.declared.answer.FirstPlan.TheVariants as first
use Rattle.model.specs.declared.refusal.Refusal.{Refusal}
use Rattle.std.specs.Prelude as answer
use Rattle.plan_search.specs.Search.{Result, found, Task, search}
use Rattle.plan_search.specs.First.{no_plan, board_task, search_all, trials, cut, ended_answer, Before, FoundFirst, FirstMeans, FirstPromise}
use Rattle.plan_search.proofs.Laws.Search.{search_end, search_skips}

-- TWO PLANS ARE THE SAME on the first n calls, or one comes before the other
same_or_before : (n : ℕ) (P Q : ℕ → ℕ) → ((c : ℕ) → c < n → P c ≡ Q c) ⊎ (Before n P Q ⊎ Before n Q P)
same_or_before zero P Q = inl (λ c h. absurd (omega arith))
same_or_before (suc n) P Q = go (same_or_before n P Q)
  where
    wider : (P Q : ℕ → ℕ) → Before n P Q → Before (suc n) P Q
    wider P Q b = record { call = b.call; there = omega (arith, b.there); lower = b.lower; same = b.same }

    go : ((c : ℕ) → c < n → P c ≡ Q c) ⊎ (Before n P Q ⊎ Before n Q P) → ((c : ℕ) → c < suc n → P c ≡ Q c) ⊎ (Before (suc n) P Q ⊎ Before (suc n) Q P)
    go (inr (inl b)) = inr (inl (wider P Q b))
    go (inr (inr b)) = inr (inr (wider Q P b))
    go (inl same) =
        ⊎_elim (λ e. inl (λ c h. ⊎_elim (λ (z : c ≡ n). rw z e) (λ z. same c (omega (arith, z))) (eq_or_ne c n)))
        (λ differ.
        ⊎_elim (λ lt. inr (inl (record { call = n; there = omega arith; lower = lt; same = same })))
        (λ le. inr (inr (record { call = n; there = omega arith; lower = omega (arith, differ); same = λ c h. sym (same c h) }))) (lt_or_le (P n) (Q n)))
        (eq_or_ne (P n) (Q n))

-- so there is one first full plan, byte by byte
one_first : (B : Board) (ceiling n m : ℕ) (plan other : List ℕ) → FoundFirst B ceiling plan n → FoundFirst B ceiling other m → plan ≡ other
one_first B ceiling n m plan other f g =
    ext_get_or no_slot_given plan other (f.size ∙ sym g.size)
    (λ c h. ⊎_elim (λ lt. on c lt) (λ le. f.blank c le ∙ sym (g.blank c le)) (lt_or_le c (length B.counts)))
  where
    on : (c : ℕ) → c < length B.counts → slot_in plan c ≡ slot_in other c
    on c lt =
        ⊎_elim (λ same. same c lt)
        (λ either.
        ⊎_elim (λ b. absurd (g.earliest (slot_in plan) f.fulfils b)) (λ b. absurd (f.earliest (slot_in other) g.fulfils b)) either)
        (same_or_before (length B.counts) (slot_in plan) (slot_in other))

-- OF ONE BOARD AND ONE CEILING ONLY ONE ANSWER IS RIGHT, with its count and its bytes
pub one_first_answer : (B : Board) (ceiling : ℕ) (a b : answer.Result FirstPlan Refusal) → FirstMeans B ceiling a → FirstMeans B ceiling b → a ≡ b
one_first_answer B ceiling (Ok (first.Found n plan)) (Ok (first.Found m other)) f g =
    let count : n ≡ m = f.count ∙ sym g.count in
    let same : plan ≡ other = one_first B ceiling n m plan other f g in
    cc
one_first_answer B ceiling (Ok (first.Found n plan)) (Ok (first.Nothing m)) f g = absurd (g.never (slot_in plan) f.fulfils)
one_first_answer B ceiling (Ok (first.Found n plan)) (Ok (first.Stopped m)) f g = absurd (omega (arith, f.count, f.within, g.more))
one_first_answer B ceiling (Ok (first.Nothing n)) (Ok (first.Found m other)) f g = absurd (f.never (slot_in other) g.fulfils)
one_first_answer B ceiling (Ok (first.Nothing n)) (Ok (first.Nothing m)) f g = let count : n ≡ m = f.count ∙ sym g.count in cc
one_first_answer B ceiling (Ok (first.Nothing n)) (Ok (first.Stopped m)) f g = absurd (omega (arith, f.count, f.within, g.more))
one_first_answer B ceiling (Ok (first.Stopped n)) (Ok (first.Found m other)) f g = absurd (omega (arith, g.count, g.within, f.more))
one_first_answer B ceiling (Ok (first.Stopped n)) (Ok (first.Nothing m)) f g = absurd (omega (arith, g.count, g.within, f.more))
one_first_answer B ceiling (Ok (first.Stopped n)) (Ok (first.Stopped m)) f g = let count : n ≡ m = f.count ∙ sym g.count in cc
one_first_answer B ceiling (Ok (first.Found n plan)) (Err k) f g = absurd g
one_first_answer B ceiling (Ok (first.Nothing n)) (Err k) f g = absurd g
one_first_answer B ceiling (Ok (first.Stopped n)) (Err k) f g = absurd g
one_first_answer B ceiling (Err k) b f g = absurd f

-- A SEARCH WITH NO CALL TO LAY comes to the plan in which none is, with no trial
none_to_lay : (t : Task) → ((c : ℕ) → t.lays c ≡ false) → search_all t ≡ found no_plan 0
unfolding search_all
none_to_lay t off = go plan_size 0 no_plan
  where
    go : (n c : ℕ) (plan : List ℕ) → search t n c plan ≡ found plan 0
    go zero c plan = search_end t c plan
    go (suc n) c plan = search_skips t n c plan (off c) ∙ go n (suc c) plan

-- so it is where every call of the board is cancelled
skipped : (B : Board) → ((c : ℕ) → c < length B.counts → Cancelled B c) → (c : ℕ) → (board_task B).lays c ≡ false
skipped B off c =
    not→ (ltb c (length B.counts) && live? B c)
    (λ x. let both = and→ (ltb c (length B.counts)) (live? B c) x in live_not B c both.1 (off c (ltb→lt c (length B.counts) both.0)))

-- ON A STATE THAT IS A LEDGER'S, where nothing is refused
module _ (L : Ledger) (shape : LedgerShape L) (s : State) (rep : Represents L s) (passes : first_of (board_conditions L (lent_of s)) ≡ 0) (ceiling : ℕ)
    (given : answer.Result FirstPlan Refusal) (promise : FirstPromise s ceiling given) where
  abbrev needed : ℕ
  needed = trials (search_all (board_task L.board))

  abbrev NoFullPlan : Type 0
  NoFullPlan = (P : ℕ → ℕ) → FullPlan L.board P → ⊥

  abbrev Given : Type 0
  Given = answer.Result FirstPlan Refusal

  -- "FOUND" EXACTLY WHERE THERE IS A FULL PLAN and the search comes to it within the ceiling
  pub found_exactly : ((n : ℕ) × ((plan : List ℕ) × (given ≡ Ok (first.Found n plan)))) ↔ (((P : ℕ → ℕ) × FullPlan L.board P) × (needed ≤ ceiling))
  found_exactly = go given ((promise.answered L shape rep).means passes)
    where
      go : (a : Given) → FirstMeans L.board ceiling a
          → ((n : ℕ) × ((plan : List ℕ) × (a ≡ Ok (first.Found n plan)))) ↔ (((P : ℕ → ℕ) × FullPlan L.board P) × (needed ≤ ceiling))
      go (Ok (first.Found n plan)) m = (λ x. ((slot_in plan, m.fulfils), omega (arith, m.count, m.within)), λ y. (n, (plan, refl)))
      go (Ok (first.Nothing n)) m =
          (λ x. let e = x.1.1 in let z : ◌≡◌ {A = ℕ} 0 1 = cc in absurd (omega arith), λ y. absurd (m.never y.0.0 y.0.1))
      go (Ok (first.Stopped n)) m =
          (λ x. let e = x.1.1 in let z : ◌≡◌ {A = ℕ} 0 1 = cc in absurd (omega arith), λ y. let within = y.1 in absurd (omega (arith, m.more)))
      go (Err k) m = absurd m

  -- and what is found is the first full plan, with the trials that it needs
  pub found_is_first : (n : ℕ) (plan : List ℕ) → given ≡ Ok (first.Found n plan) → FoundFirst L.board ceiling plan n
  found_is_first n plan e = subst (λ (a : Given). FirstMeans L.board ceiling a) e ((promise.answered L shape rep).means passes)

  -- "NONE" EXACTLY WHERE THERE IS NO FULL PLAN and the search finishes within the ceiling
  pub none_exactly : ((n : ℕ) × (given ≡ Ok (first.Nothing n))) ↔ (NoFullPlan × (needed ≤ ceiling))
  none_exactly = go given ((promise.answered L shape rep).means passes)
    where
      go : (a : Given) → FirstMeans L.board ceiling a → ((n : ℕ) × (a ≡ Ok (first.Nothing n))) ↔ (NoFullPlan × (needed ≤ ceiling))
      go (Ok (first.Found n plan)) m =
          (λ x. let e = x.1 in let z : ◌≡◌ {A = ℕ} 0 1 = cc in absurd (omega arith), λ y. absurd (y.0 (slot_in plan) m.fulfils))
      go (Ok (first.Nothing n)) m = (λ x. (m.never, omega (arith, m.count, m.within)), λ y. (n, refl))
      go (Ok (first.Stopped n)) m =
          (λ x. let e = x.1 in let z : ◌≡◌ {A = ℕ} 0 1 = cc in absurd (omega arith), λ y. let within = y.1 in absurd (omega (arith, m.more)))
      go (Err k) m = absurd m

  -- "STOPPED" EXACTLY WHERE THE SEARCH NEEDS MORE TRIALS THAN THE CEILING
  pub stopped_exactly : ((n : ℕ) × (given ≡ Ok (first.Stopped n))) ↔ (ceiling < needed)
  stopped_exactly = go given ((promise.answered L shape rep).means passes)
    where
      go : (a : Given) → FirstMeans L.board ceiling a → ((n : ℕ) × (a ≡ Ok (first.Stopped n))) ↔ (ceiling < needed)
      go (Ok (first.Found n plan)) m =
          (λ x. let e = x.1 in let z : ◌≡◌ {A = ℕ} 0 1 = cc in absurd (omega arith), λ y. absurd (omega (arith, m.count, m.within)))
      go (Ok (first.Nothing n)) m =
          (λ x. let e = x.1 in let z : ◌≡◌ {A = ℕ} 0 1 = cc in absurd (omega arith), λ y. absurd (omega (arith, m.count, m.within)))
      go (Ok (first.Stopped n)) m = (λ x. m.more, λ y. (n, refl))
      go (Err k) m = absurd m

  -- WITH EVERY CALL CANCELLED the plan is found with no trial, whatever the ceiling
  pub all_cancelled : ((c : ℕ) → c < length L.board.counts → Cancelled L.board c) → given ≡ Ok (first.Found 0 no_plan)
  all_cancelled off =
      (promise.answered L shape rep).searched passes
      ∙ ap (λ (r : Result). let a : Given = Ok (ended_answer ceiling (cut ceiling r)) in a) (none_to_lay (board_task L.board) (skipped L.board off))
      ∙ rw (le-leb 0 ceiling (omega arith)) refl
