-- The loop's invariant: none of the rows passed supports the slot, so the first that does is the first of all.
use Rattle.std.specs.Prelude.{◌≡◌, false}
use Rattle.layout.specs.Places.{rows_of}
use Rattle.model.specs.Tests.{some?}
use Rattle.model.specs.Questions.{supports?}
use Rattle.questions.specs.Parts.{search_parts}
use Rattle.questions.proofs.read.lowest_support.Given as goal

abbrev pub invariant-loop-row : goal.invariant-loop-row
invariant-loop-row l =
    (l.row-end ≡ rows_of l.lengths l.rule) × (some? l.row (supports? (search_parts l.rows l.killers) l.rule l.column l.slot) ≡ false)
