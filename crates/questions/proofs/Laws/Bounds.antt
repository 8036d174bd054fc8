-- THE BOUNDS behind the checks that refuse nothing, the buffers are of their lengths, and the numbers lie within them. Assumes nothing.
use Rattle.std.specs.Prelude.{◌≡◌, false, ℕ, ◌+◌, ◌<◌, ◌≤◌}
use Rattle.std.proofs.Common.{sym, arith, ltb-false, leb-false}
use Rattle.layout.specs.Memory.{State, lent_of}
use Rattle.layout.specs.Places.{columns_of, rows_of}
use Rattle.layout.specs.Sizes.{bad_lent?}
use Rattle.model.specs.Ledger.{bad_number?}
use Rattle.model.specs.Refusals.{first_of}
use Rattle.model.specs.Numbers as refused
use Rattle.model.specs.Questions.{row_checks, support_checks}
use Rattle.model.proofs.Laws.Refusals.{none_holds}
use Rattle.model.proofs.Laws.Shapes.{lent_sizes}
use Rattle.questions.specs.Parts.{Searchable}

module _ (s : State) (p : ℕ) where
  searchable : {m k : ℕ} → bad_lent? (lent_of s) ≡ false → bad_number? p ≡ false → m ≤ 64 → k < 4 → Searchable s.rows s.killers p m k
  searchable lent number few column =
      let sizes = lent_sizes (lent_of s) lent in
      record { rows_size = sizes.0; killers_size = sizes.1; number = omega (arith, ltb-false 63 p number); few = few; column = column }

  -- row w, from its first column on
  pub row_bounds : (w : ℕ) → 0 ≡ first_of (row_checks s p w) → Searchable s.rows s.killers p (w + 1) 0
  row_bounds w e =
      let clear = none_holds (row_checks s p w) tt (sym e) in
      searchable (clear refused.buffer_length) (clear refused.bad_number) (omega (arith, leb-false (rows_of s.value.heads.lengths p) w (clear refused.no_row))) (omega arith)

  -- column k of every row of the rule
  pub support_bounds : (k t : ℕ) → 0 ≡ first_of (support_checks s p k t) → Searchable s.rows s.killers p (rows_of s.value.heads.lengths p) k
  support_bounds k t e =
      let clear = none_holds (support_checks s p k t) tt (sym e) in
      searchable (clear refused.buffer_length) (clear refused.bad_number) (omega arith) (omega (arith, leb-false (columns_of s.value.heads.arity p) k (clear refused.no_column)))
