-- THE CHECKS OF KIND 9 OVER THE BYTES, as the code makes them on any contents. On a state that is a ledger's they are those of SCOPE 4.3 (Laws/Checks).
use Rattle.std.specs.Prelude.{Bool, List, [], ◌∷◌, ℕ, get_or, eqb}
use Rattle.layout.specs.Places.{cancelled?}
use Rattle.model.specs.Representation.{no_calls?}
use Rattle.model.specs.Numbers as refused

-- a call that is not there has no slots
abbrev pub cancel_checks : List ℕ → List ℕ → ℕ → List (Bool × ℕ)
cancel_checks counts slots call =
    (no_calls? counts, refused.no_board) ∷ (eqb (get_or counts call 0) 0, refused.no_call) ∷ (cancelled? slots call, refused.already_cancelled) ∷ []
