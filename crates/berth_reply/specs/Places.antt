-- The place of a row's four bytes from the number of them: the question hands back four or none. Assumes nothing.
use Rattle.std.specs.Prelude.{ℕ, zero, suc}
use Rattle.berth_reply.specs.declared.PlaceReply.{PlaceReply}
use Rattle.layout.specs.Places.{row_start}

-- so many bytes from the row's place on
abbrev pub row_place_reply : ℕ → ℕ → ℕ → PlaceReply
row_place_reply zero p w = record { place = 0; length = 0 }
row_place_reply (suc n) p w = record { place = row_start p w; length = suc n }
