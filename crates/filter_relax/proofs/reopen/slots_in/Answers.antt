-- The ones of a mask are the flags of it that are set.
use Rattle.std.proofs.Common.{sym}
use Rattle.tables.specs.Laws.Flags.{count_flags}
use Rattle.filter_relax.proofs.reopen.slots_in.Goals as goal

pub returns : goal.returns
returns c = sym (count_flags 32 c.args.mask c.ranges.mask.fits)
