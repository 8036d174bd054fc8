-- The calls before c have their entries.
use Rattle.std.proofs.Common.{◌≡◌}
use Rattle.plan_model.specs.Plans.{slots_on_in}
use Rattle.plan_fit.specs.Parts.{call_parts}
use Rattle.plan_tables.specs.Lookup.{Entries}
use Rattle.plan_tables.proofs.lookup.call_slots.Given as goal

abbrev pub invariant-loop-c : goal.invariant-loop-c
invariant-loop-c l = Entries (λ d v. v ≡ slots_on_in (call_parts l.counts l.slots) d) 32 l.c l.held
