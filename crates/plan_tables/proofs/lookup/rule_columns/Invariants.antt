-- The columns before i have their calls.
use Rattle.std.proofs.Common.{◌≡◌, ◌/◌, ◌%◌}
use Rattle.plan_fit.specs.Words.{column_call}
use Rattle.plan_tables.specs.Lookup.{Entries}
use Rattle.plan_tables.proofs.lookup.rule_columns.Given as goal

abbrev pub invariant-loop-i : goal.invariant-loop-i
invariant-loop-i l = Entries (λ j v. v ≡ column_call l.heads l.slots (j / 4) (j % 4)) 256 l.i l.columns
