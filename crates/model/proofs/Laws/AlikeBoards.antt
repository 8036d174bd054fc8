-- BOARDS THAT ARE ALIKE HAVE THE SAME SUPPORTS (SCOPE 5.5): what an answer to the support question means leaves room for one answer, whatever causes and killers
-- the board's history left. The proof reads the answers' numbers and meanings, never their equations. Assumes nothing.
use Rattle.std.specs.Prelude.{◌≡◌, refl, List, ◌↔◌, ◌⊎◌, ℕ, zero, suc, ◌<◌, ◌≤◌, get_or, Option, Some, None, Result, Ok, Err}
use Rattle.std.proofs.Common.{sym, ap, subst, ◌∙◌, inl, inr, ⊎_elim, arith, eq-or-lt_of_le}
use Rattle.std.proofs.Math.Option.{none}
use Rattle.std.proofs.Math.Option as kept
use Rattle.model.specs.declared.refusal.Refusal.{Refusal}
use Rattle.model.specs.Board.{Rule, Board, call_at, slot_at, Cancelled, Live, Viable}
use Rattle.model.specs.Ledger.{Ledger, LedgerShape, Member, fresh, run}
use Rattle.model.specs.Refusals.{first_of, number_of}
use Rattle.model.specs.Representation.{rule_or, rule_at, Represents}
use Rattle.model.specs.Questions.{support_conditions, SupportingRow, SupportMeans, SupportPromise}
use Rattle.model.specs.Lists.{After}
use Rattle.model.proofs.Laws.Theory.{on_live, live_along, active_same, viable_mono}
use Rattle.model.proofs.Laws.Lists.{runs_represent}
use Rattle.model.proofs.Laws.Refusals.{number_own}
use Rattle.layout.specs.Memory.{State, Whole, lent_of}
use Rattle.layout.specs.Sizes.{Lent, rows_length, killers_length, slots_length}
use Rattle.tables.specs.Laws.Facts.{lt_or_le}

-- two answers that say what they mean of one rule, column and slot
pub one_support : (B : Board) (r : Rule) (k t : ℕ) (a b : Result (Option ℕ) Refusal) → SupportMeans B r k t a → SupportMeans B r k t b → a ≡ b
one_support B r k t (Ok (Some w)) (Ok (Some v)) m n = ap (λ (w : ℕ). let x : Result (Option ℕ) Refusal = Ok (Some w) in x) (same (lt_or_le w v))
  where
    same : (w < v) ⊎ (v ≤ w) → w ≡ v
    same (inl l) = absurd (n.lowest w l m.supporting)
    same (inr le) = ⊎_elim sym (λ l. absurd (m.lowest v l n.supporting)) (eq-or-lt_of_le le)
one_support B r k t (Ok (Some w)) (Ok None) m n = absurd (n w m.supporting)
one_support B r k t (Ok None) (Ok (Some v)) m n = absurd (m v n.supporting)
one_support B r k t (Ok None) (Ok None) m n = refl
one_support B r k t (Err i) b m n = absurd m
one_support B r k t (Ok (Some w)) (Err i) m n = absurd n
one_support B r k t (Ok None) (Err i) m n = absurd n

-- two that are refused under one number
one_refusal : (n : ℕ) (a b : Result (Option ℕ) Refusal) → number_of a ≡ suc n → number_of b ≡ suc n → a ≡ b
one_refusal n (Err i) (Err j) e d = ap Err (number_own i j (e ∙ sym d))
one_refusal n (Ok (Some w)) b e d = absurd (omega arith)
one_refusal n (Ok None) b e d = absurd (omega arith)
one_refusal n (Err i) (Ok (Some v)) e d = absurd (omega arith)
one_refusal n (Err i) (Ok None) e d = absurd (omega arith)

-- TWO BOARDS ARE ALIKE: the same counts, the same rules, row for row, and the same calls cancelled, in whatever order
pub record Alike (B B' : Board) : Type 0 where
  pub counts : B.counts ≡ B'.counts
  pub rules : B.rules ≡ B'.rules
  pub cancelled : (c : ℕ) → Cancelled B c ↔ Cancelled B' c

back_alike : {B B' : Board} → Alike B B' → Alike B' B
back_alike a = record { counts = sym a.counts; rules = sym a.rules; cancelled = λ c. ((a.cancelled c).1, (a.cancelled c).0) }

-- what is viable on one is viable on the other
module _ (B B' : Board) (a : Alike B B') where
  alike_live : (c : ℕ) → Live B c → Live B' c
  alike_live c = live_along B B' c (a.cancelled c).1

  live_alike : (c : ℕ) → Live B' c → Live B c
  live_alike c = live_along B' B c (a.cancelled c).0

  alike_viable : (c s : ℕ) → Viable B c s → Viable B' c s
  alike_viable c s v =
      viable_mono B' B
      (record {
        counts = sym a.counts;
        cancelled = λ c. (a.cancelled c).0;
        rules = λ p r f.
            record { number = p; rule = r; force = rw a.rules f; same = record { scope = refl; there = λ w h. (w, h, refl); back = λ w h. (w, h, refl) } };
      })
      c s (alike_live c (on_live B c s (v.self.slots c s v.has))) v

  alike_row : (r : Rule) (k t w : ℕ) → SupportingRow B r k t w → SupportingRow B' r k t w
  alike_row r k t w s =
      record {
        active = active_same B B' r r k refl (alike_live (call_at r k)) s.active;
        there = s.there;
        living = λ j h. alike_viable (call_at r j) (slot_at r w j) (s.living j (active_same B' B r r j refl (live_alike (call_at r j)) h));
        has = s.has;
      }

-- so what an answer means of one it means of the other
alike_means : (B B' : Board) → Alike B B' → (r : Rule) (k t : ℕ) (x : Result (Option ℕ) Refusal) → SupportMeans B r k t x → SupportMeans B' r k t x
alike_means B B' a r k t (Ok (Some w)) m =
    record { supporting = alike_row B B' a r k t w m.supporting; lowest = λ v l s. m.lowest v l (alike_row B' B (back_alike a) r k t v s) }
alike_means B B' a r k t (Ok None) m = λ w s. m w (alike_row B' B (back_alike a) r k t w s)
alike_means B B' a r k t (Err f) m = m

-- TWO STATES OF BOARDS THAT ARE ALIKE
pub same_support : (L L' : Ledger) (s s' : State) → LedgerShape L → Represents L s → LedgerShape L' → Represents L' s' → Alike L.board L'.board
    → (p k t : ℕ) (a b : Result (Option ℕ) Refusal) → SupportPromise s p k t a → SupportPromise s' p k t b → a ≡ b
same_support L L' s s' shape rep shape' rep' board p k t a b m n = go (first_of (support_conditions L (lent_of s) p k t)) refl
  where
    lengths : (L : Ledger) (s : State) → Represents L s → lent_of s ≡ record { rows = rows_length; killers = killers_length; slots = slots_length }
    lengths L s rep = rw (rep.stored.row_bytes_lem.rows_size, rep.stored.killers_size, rep.stored.slots_size) refl

    -- 1, 6, 7, 17, 21 and 19 look at the counts and the rules alone
    alike : first_of (support_conditions L' (lent_of s') p k t) ≡ first_of (support_conditions L (lent_of s) p k t)
    alike =
        ap (λ (l : Lent). first_of (support_conditions L' l p k t)) (lengths L' s' rep' ∙ sym (lengths L s rep)) ∙ rw (← board.counts, ← board.rules) refl

    rule : rule_at L'.board p ≡ rule_at L.board p
    rule = ap (λ (rs : List (kept.Option Rule)). rule_or (get_or rs p none)) (sym board.rules)

    go : (i : ℕ) → first_of (support_conditions L (lent_of s) p k t) ≡ i → a ≡ b
    go zero z =
        one_support L.board (rule_at L.board p) k t a b ((m.answered L shape rep).means z)
        (alike_means L'.board L.board (back_alike board) (rule_at L.board p) k t b
        (subst (λ (r : Rule). SupportMeans L'.board r k t b) rule ((n.answered L' shape' rep').means (alike ∙ z))))
    go (suc i) z = one_refusal i a b ((m.answered L shape rep).number ∙ z) ((n.answered L' shape' rep').number ∙ alike ∙ z)

-- AFTER ANY TWO LISTS that end with the same counts, rules, row for row, and cancelled calls, whatever else the lists did
pub supports_agree : {first first' : List ℕ} (ms ms' : List Member) (s s' : Whole) → After first ms s → After first' ms' s' → Alike (run fresh ms).board (run fresh ms').board
    → (p k t : ℕ) (a b : Result (Option ℕ) Refusal) → SupportPromise s.marked.state p k t a → SupportPromise s'.marked.state p k t b → a ≡ b
supports_agree ms ms' s s' after after' board =
    let is = runs_represent ms s after in
    let is' = runs_represent ms' s' after' in
    same_support (run fresh ms) (run fresh ms') s.marked.state s'.marked.state is.0 is.1.state is'.0 is'.1.state board
