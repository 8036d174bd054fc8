-- The buffers are filled first, and the names forgotten; the file is taken on them, and the records are counted once.
use Rattle.command_file.specs.Laws.Replay.{fresh_is, file_counted}
use Rattle.command_file.proofs.run_file.Goals as goal

pub take_all-replayed-requires : goal.take_all-replayed-requires
take_all-replayed-requires c =
    rw c.fresh.ensures (fresh_is _ _ _ _ _ c.fill_fresh.ensures c.forget.ensures)

pub returns : goal.returns
returns c = file_counted _ _ _ _ _ _ c.take_all-replayed.ensures c.table_of-table.ensures
