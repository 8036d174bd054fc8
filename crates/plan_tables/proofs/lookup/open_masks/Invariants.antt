-- The calls before c have their masks.
use Rattle.std.proofs.Common.{◌≡◌}
use Rattle.tables.specs.Masks.{IsMask}
use Rattle.layout.specs.Places.{cause_of}
use Rattle.plan_tables.specs.Lookup.{Entries}
use Rattle.plan_tables.proofs.lookup.open_masks.Given as goal

abbrev pub invariant-loop-c : goal.invariant-loop-c
invariant-loop-c l = Entries (λ d m. IsMask (λ s. cause_of l.slots d s ≡ 255) 32 m) 32 l.c l.opened
