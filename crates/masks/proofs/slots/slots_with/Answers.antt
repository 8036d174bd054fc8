-- The test is that the byte is x.
use Rattle.std.proofs.Common.{rules}
use Rattle.masks.specs.Laws.Slots.{tested_mask}
use Rattle.masks.proofs.slots.slots_with.Goals as goal

pub returns : goal.returns
returns c = tested_mask _ c.slots_where.ensures (λ s l e t. search rules) (λ s l t. search rules)
