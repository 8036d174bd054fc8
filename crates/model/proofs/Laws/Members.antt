-- WHAT STANDS AFTER A MEMBER OF A LIST (SCOPE 6.2, 6.3), entered by any promise over any memory: where a length is wrong everything is as it was, and where all are right the
-- member is handed what stands, and what it leaves stands after it. Assumes nothing.
use Rattle.std.specs.Prelude.{◌≡◌, refl, Bool, true, false, cond, List, ◌⊎◌, ℕ, zero, suc, length, eqb}
use Rattle.std.proofs.Common.{sym, ap, subst, ◌∙◌, inl, inr, eqb-true, eq-eqb}
use Rattle.layout.specs.Sizes.{CommandLent}
use Rattle.model.specs.Ledger.{lent_conditions, lengths}
use Rattle.model.specs.Lists.{Buffers, lengths_of, Lending, Handed, standing, standing_buffers, EnteredBy}
use Rattle.model.specs.Refusals.{first_of}
use Rattle.model.proofs.Laws.Refusals.{none_holds}
use Rattle.model.proofs.Laws.Shapes.{lent_right}
use Rattle.model.specs.Numbers as refused

-- a buffer or a table that is left as it was handed leaves what stands as it was
pub standing_same : {A : Type 0} (own handed : List A) → Handed own handed → standing own handed handed ≡ own
standing_same {A} own handed same = go (eqb (length handed) (length own)) refl
  where
    go : (b : Bool) → eqb (length handed) (length own) ≡ b → cond b handed own ≡ own
    go true e = same (eqb-true (length handed) (length own) e)
    go false e = refl

-- one of the right length is the one that stands, and what the member left stands after it
pub standing_own : {A : Type 0} (own handed left : List A) → length handed ≡ length own → standing own handed left ≡ left
standing_own own handed left e = rw (eq-eqb (length handed) (length own) e) refl

-- buffers with the same parts are the same
buffers_same : (a b : Buffers) → a.rows ≡ b.rows → a.killers ≡ b.killers → a.slots ≡ b.slots → a.marks ≡ b.marks → a.table ≡ b.table → a ≡ b
buffers_same a b r k s m t =
    let e : ◌≡◌ {A = Buffers}
    (record { rows = a.rows; killers = a.killers; slots = a.slots; marks = a.marks; table = a.table })
    (record { rows = b.rows; killers = b.killers; slots = b.slots; marks = b.marks; table = b.table }) = cc in
    e

-- all of the right lengths, so what the member left stands
standing_all : (own handed left : Buffers) → lengths_of handed ≡ lengths_of own → standing_buffers own handed left ≡ left
standing_all own handed left right =
    buffers_same (standing_buffers own handed left) left
    (standing_own own.rows handed.rows left.rows (ap (λ (l : CommandLent). l.buffers.rows) right))
    (standing_own own.killers handed.killers left.killers (ap (λ (l : CommandLent). l.buffers.killers) right))
    (standing_own own.slots handed.slots left.slots (ap (λ (l : CommandLent). l.buffers.slots) right))
    (standing_own own.marks handed.marks left.marks (ap (λ (l : CommandLent). l.marks) right))
    (standing_own own.table handed.table left.table (ap (λ (l : CommandLent). l.table) right))

together_same : {S F : Type 0} (P : Lending S F) {f f' : F} {b b' : Buffers} → f ≡ f' → b ≡ b' → P.together f b ≡ P.together f' b'
together_same P e d = rw (e, d) refl

-- ONE MEMBER
module _ {S F A : Type 0} {P : Lending S F} {Promised : S → A → S → Type 0} {lent : CommandLent} {s s' : S} (t : EnteredBy P Promised lent s s') where
  abbrev own : Buffers
  own = P.buffers s

  abbrev lent_to : Buffers
  lent_to = P.buffers t.handed

  -- where it leaves all as it was handed, all is as it was
  pub unchanged_stands : t.left ≡ t.handed → s' ≡ s
  unchanged_stands same =
      let kept : standing_buffers own lent_to lent_to ≡ own =
      buffers_same (standing_buffers own lent_to lent_to) own
      (standing_same own.rows lent_to.rows t.rows)
      (standing_same own.killers lent_to.killers t.killers)
      (standing_same own.slots lent_to.slots t.slots)
      (standing_same own.marks lent_to.marks t.marks)
      (standing_same own.table lent_to.table t.table) in
      t.stands
      ∙ together_same P (ap P.fixed same ∙ t.fixed) (ap (λ (w : S). standing_buffers own lent_to (P.buffers w)) same ∙ kept)
      ∙ P.whole s

  -- handed the right lengths, it is handed what stands, and what it leaves stands after it
  module _ (right : lengths_of lent_to ≡ lengths_of own) where
    handed_own : t.handed ≡ s
    handed_own =
        sym (P.whole t.handed)
        ∙ together_same P t.fixed
        (buffers_same lent_to own
        (t.rows (ap (λ (l : CommandLent). l.buffers.rows) right))
        (t.killers (ap (λ (l : CommandLent). l.buffers.killers) right))
        (t.slots (ap (λ (l : CommandLent). l.buffers.slots) right))
        (t.marks (ap (λ (l : CommandLent). l.marks) right))
        (t.table (ap (λ (l : CommandLent). l.table) right)))
        ∙ P.whole s

    left_stands : s' ≡ t.left
    left_stands = t.stands ∙ together_same P refl (standing_all own lent_to (P.buffers t.left) right) ∙ P.whole t.left

    pub own_promise : Promised s t.given s'
    own_promise =
        subst (λ (w : S). Promised w t.given s') handed_own (subst (λ (w : S). Promised t.handed t.given w) (sym left_stands) t.promise)

-- and a member that is handed what stands is entered by its promise
pub entered_own : {S F A : Type 0} (P : Lending S F) (Promised : S → A → S → Type 0) (s s' : S) (given : A) → Promised s given s'
    → EnteredBy P Promised (lengths_of (P.buffers s)) s s'
entered_own P Promised s s' given promise =
    record {
      handed = s;
      left = s';
      given = given;
      fixed = refl;
      lengths = refl;
      rows = λ e. refl;
      killers = λ e. refl;
      slots = λ e. refl;
      marks = λ e. refl;
      table = λ e. refl;
      promise = promise;
      stands = sym (together_same P refl (standing_all (P.buffers s) (P.buffers s) (P.buffers s') refl) ∙ P.whole s');
    }

-- the lengths are refused: 1 or 22
abbrev pub BadLengths : CommandLent → Type 0
BadLengths lent = (n : ℕ) × (first_of (lent_conditions lent) ≡ suc n)

-- OVER ACCOUNTS K of what stands, by which its lengths are right: a member has lengths that are refused, or the right ones, and then its promise is met on what stands
pub lengths_or_promise : {S F A K : Type 0} (P : Lending S F) {Promised : S → A → S → Type 0} (Is : K → S → Type 0)
    → ((k : K) (s : S) → Is k s → lengths_of (P.buffers s) ≡ lengths) → (k : K) {lent : CommandLent} {s s' : S} → Is k s → (t : EnteredBy P Promised lent s s')
    → BadLengths lent ⊎ ((lent ≡ lengths_of (P.buffers s)) × Promised s t.given s')
lengths_or_promise P {Promised} Is sized k {lent} {s} {s'} is t = go (first_of (lent_conditions lent)) refl
  where
    go : (n : ℕ) → first_of (lent_conditions lent) ≡ n → BadLengths lent ⊎ ((lent ≡ lengths_of (P.buffers s)) × Promised s t.given s')
    go (suc n) bad = inl (n, bad)
    go zero good =
        let passes = none_holds (lent_conditions lent) tt good in
        let right : lent ≡ lengths_of (P.buffers s) = lent_right lent (passes refused.buffer_length) (passes refused.table_length) ∙ sym (sized k s is) in
        inr (right, own_promise t (t.lengths ∙ right))

-- OVER ANY PROMISE THAT LEAVES EVERYTHING AS IT WAS WHERE A LENGTH IS WRONG: after such a member everything is as it was
module _ {S F A : Type 0} (P : Lending S F) (Promised : S → A → S → Type 0)
    (stays : (s s' : S) (given : A) → Promised s given s' → BadLengths (lengths_of (P.buffers s)) → s' ≡ s) where
  pub lengths_stand : {lent : CommandLent} {s s' : S} → EnteredBy P Promised lent s s' → BadLengths lent → s' ≡ s
  lengths_stand t bad =
      unchanged_stands t (stays t.handed t.left t.given t.promise (bad.0, ap (λ (l : CommandLent). first_of (lent_conditions l)) t.lengths ∙ bad.1))

  -- and that takes what is an account's to what is the next one's, as wrong lengths do not: every member keeps what stands an account's
  module _ {K : Type 0} (Is : K → S → Type 0) (sized : (k : K) (s : S) → Is k s → lengths_of (P.buffers s) ≡ lengths) (next : K → CommandLent → K)
      (idle : (k : K) (lent : CommandLent) → BadLengths lent → next k lent ≡ k)
      (steps : (k : K) (s s' : S) (given : A) → Is k s → Promised s given s' → Is (next k (lengths_of (P.buffers s))) s') where
    pub member_keeps : (k : K) (lent : CommandLent) (s s' : S) → Is k s → EnteredBy P Promised lent s s' → Is (next k lent) s'
    member_keeps k lent s s' is t = go (lengths_or_promise P Is sized k is t)
      where
        go : BadLengths lent ⊎ ((lent ≡ lengths_of (P.buffers s)) × Promised s t.given s') → Is (next k lent) s'
        go (inl bad) = rw (idle k lent bad, lengths_stand t bad) is
        go (inr met) = subst (λ (l : CommandLent). Is (next k l) s') (sym met.0) (steps k s s' t.given is met.1)
