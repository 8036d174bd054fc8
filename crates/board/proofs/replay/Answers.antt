-- The table that is left is the one of which the core's promise speaks.
use Rattle.std.proofs.Common.{refl}
use Rattle.board.proofs.replay.Goals as goal

pub store-requires : goal.store-requires
store-requires c = c.replay_core-done.ensures.room

pub returns : goal.returns
returns c = rw c.store.ensures (c.replay_core-done.ensures.all c.args.table.now refl)
