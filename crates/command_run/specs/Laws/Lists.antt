-- WHAT THE COMMAND ENTRY PROMISES makes its command one of a list: it is handed what stands, and what it leaves stands after it. Assumes nothing.
use Rattle.std.specs.Prelude.{List, ℕ}
use Rattle.model.specs.Promise.{Answer, Promise}
use Rattle.model.specs.Lists.{whole_lending, Entered}
use Rattle.model.proofs.Laws.Members.{entered_own}
use Rattle.layout.specs.Memory.{Whole, lent_with}

pub entered_by : (s : Whole) (bytes : List ℕ) (given : Answer) (after : Whole) → Promise s bytes given after → Entered (record { bytes = bytes; lent = lent_with s }) s after
entered_by s bytes given after promise = entered_own whole_lending (λ before given after. Promise before bytes given after) s after given promise
