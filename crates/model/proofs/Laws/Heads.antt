-- WHAT THE HEADS HOLD OF A BOARD: a count of 0 is no call's, and an arity of 0 no rule's. Assumes nothing.
use Rattle.std.specs.Prelude.{◌≡◌, refl, ℕ, ◌<◌, length, get_or, eqb, leb}
use Rattle.std.proofs.Common.{sym, ap, ◌∙◌, ⊎_elim, arith, eq-eqb, ne_eqb, le-leb}
use Rattle.std.proofs.Math.Option.{Option, none, some}
use Rattle.std.proofs.Math.ListN.{get_or-eq_default}
use Rattle.std.proofs.lemmas.Bool.{lt-leb}
use Rattle.layout.specs.declared.value.Heads.{Heads}
use Rattle.model.specs.Board.{Rule, Board, Shape}
use Rattle.model.specs.Tests.{is_none}
use Rattle.model.specs.Representation.{rule_or, rule_at, no_calls?, Headed}
use Rattle.tables.specs.Laws.Facts.{lt_or_le}

module _ (B : Board) (shape : Shape B) where
  -- a rule has a column
  pub no_columns_lem : (p : ℕ) → eqb (length (rule_at B p).scope) 0 ≡ is_none (get_or B.rules p none)
  no_columns_lem p = go (get_or B.rules p none) refl
    where
      go : (o : Option Rule) → get_or B.rules p none ≡ o → eqb (length (rule_or o).scope) 0 ≡ is_none o
      go none e = refl
      go (some r) e = let least = (shape.rules p r e).least in ne_eqb (length r.scope) 0 (λ e. omega arith)

  module _ (heads : Heads) (headed : Headed B heads) where
    pub counts_held : (c : ℕ) → get_or heads.counts c 0 ≡ get_or B.counts c 0
    counts_held c =
        ⊎_elim (headed.counts c)
        (λ le.
        get_or-eq_default heads.counts 0 (omega (arith, headed.counts_size))
        ∙ sym (get_or-eq_default B.counts 0 (omega (arith, shape.calls))))
        (lt_or_le c 32)

    pub no_call_lem : (c : ℕ) → eqb (get_or heads.counts c 0) 0 ≡ leb (length B.counts) c
    no_call_lem c =
        ap (λ (n : ℕ). eqb n 0) (counts_held c)
        ∙ ⊎_elim
        (λ lt. let least = (shape.counts c lt).0 in ne_eqb (get_or B.counts c 0) 0 (λ e. omega arith) ∙ sym (lt-leb (length B.counts) c lt))
        (λ le. eq-eqb (get_or B.counts c 0) 0 (get_or-eq_default B.counts 0 le) ∙ sym (le-leb (length B.counts) c le))
        (lt_or_le c (length B.counts))

    -- there is a board exactly where the first call has slots
    pub no_calls : no_calls? heads.counts ≡ eqb (length B.counts) 0
    no_calls =
        no_call_lem 0
        ∙ ⊎_elim (λ lt. lt-leb (length B.counts) 0 lt ∙ sym (ne_eqb (length B.counts) 0 (λ e. omega arith)))
        (λ le. le-leb (length B.counts) 0 le ∙ sym (eq-eqb (length B.counts) 0 (omega arith)))
        (lt_or_le 0 (length B.counts))

    -- a number is in force exactly where its rule has a column
    pub no_rule : (p : ℕ) → p < 64 → eqb (get_or heads.arity p 0) 0 ≡ is_none (get_or B.rules p none)
    no_rule p h = ap (λ (n : ℕ). eqb n 0) (headed.arity p h) ∙ no_columns_lem p
