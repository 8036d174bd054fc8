-- A shift of 1 by less than 64 loses nothing, and its complement lacks one bit.
use Rattle.tables.specs.Laws.Masks.{shl_one}
use Rattle.masks.specs.Laws.Rules.{without_power}
use Rattle.masks.proofs.rules.without.Goals as goal

pub returns : goal.returns
returns c = rw (shl_one 64 c.args.p c.requires) (without_power _ _ c.requires)
