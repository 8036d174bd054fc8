-- The difference has the bits of the first that are 0 in the second.
use Rattle.masks.specs.Laws.Slots.{bits_difference}
use Rattle.masks.proofs.slots.set_difference.Goals as goal

pub returns : goal.returns
returns c = bits_difference _ _ c.ranges.y.fits
