-- The rows before w are words.
use Rattle.plan_tables.specs.Lookup.{WordsMade}
use Rattle.plan_tables.proofs.lookup.rule_words.Given as goal

abbrev pub invariant-loop-w : goal.invariant-loop-w
invariant-loop-w l = WordsMade l.rows l.p l.mask l.w l.initial.words l.words
