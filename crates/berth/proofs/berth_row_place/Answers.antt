-- The place goes by the number of bytes that the question hands back.
use Rattle.berth_reply.specs.Laws.Places.{place_replied}
use Rattle.berth.proofs.berth_row_place.Goals as goal

pub returns : goal.returns
returns c = rw c.of_row_bytes.ensures (place_replied _ _ _ _ c.row_bytes-part.ensures.promise)
