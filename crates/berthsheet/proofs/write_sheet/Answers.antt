-- What was read has the sheet of all, and it is written.
use Rattle.std.proofs.Common.{arith}
use Rattle.sheet.specs.Laws.Whole.{written_bytes}
use Rattle.berthsheet.proofs.Streams.{sheet_appended}
use Rattle.berthsheet.proofs.write_sheet.Goals as goal

pub returns-in-Ok-write_all : goal.returns-in-Ok-write_all
returns-in-Ok-write_all g c =
    sheet_appended _ _ _ _ c.in-Ok.n c.read_full.new.bytes _ (omega (arith, c.read_full.auto.bytes)) c.in-Ok.ensures.bound.0 c.in-Ok.ensures.bytes (written_bytes c.sheet.ensures c.in-Ok-sheet.is)
    c.in-Ok-write_all.ensures.bytes
