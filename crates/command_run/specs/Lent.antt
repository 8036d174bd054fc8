-- THE MARKS AS AN ARRAY: what is left in it is what the lent buffer then holds; where there is none, the buffer holds what it held.
use Rattle.std.specs.Prelude.{List, ℕ, Option}
use Rattle.std.specs.Borrow.{LendsIf, MutBor, Fml, Array, u8}

abbrev pub LendsMarks : MutBor (List ℕ) → Option (MutBor (List ℕ)) → Fml
LendsMarks s r = LendsIf (Array u8 0) (Array u8 0) s r (λ ws. ws) s.now
