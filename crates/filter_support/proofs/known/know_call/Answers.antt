-- A call whose bit is set is known already; of another the masks are made, and it joins.
use Rattle.std.proofs.Common.{arith, rules}
use Rattle.filter_support.specs.Laws.Known.{learnt_before, learnt_made}
use Rattle.filter_support.proofs.known.know_call.Goals as goal

pub returns-then-bit-masks-ne0 : goal.returns-then-bit-masks-ne0
returns-then-bit-masks-ne0 c = learnt_before _ _ _ (omega arith) c.requires.known c.if-bit-masks-ne0.true

pub returns : goal.returns
returns c =
    let start = c in
    learnt_made _ start.args.masks.now _ (omega arith) (search rules) (search rules) start.requires.known c.slots_with.ensures c.slots_below.ensures
