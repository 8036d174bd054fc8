-- The rules before p have their words.
use Rattle.plan_tables.specs.Lookup.{RowWords}
use Rattle.plan_tables.proofs.lookup.write_words.Given as goal

abbrev pub invariant-loop-p : goal.invariant-loop-p
invariant-loop-p l = RowWords l.rows l.lengths l.columns l.p l.words
