-- Each round writes the next byte of the name; after the last all are written.
use Rattle.std.proofs.Common.{arith}
use Rattle.layout.specs.Laws.Names.{mark_written}
use Rattle.layout.proofs.names.store_name.Goals as goal

pub returns : goal.returns
returns c =
    let l = c.loop-i in
    mark_written _ _ _ _ l.i _ l.invariant.1 l.invariant.0 (omega arith) l.invariant.3
