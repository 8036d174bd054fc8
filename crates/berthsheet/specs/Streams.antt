-- WHAT THE PROGRAM READS AND WRITES, of a reader and a writer whose bytes are known.
use Rattle.std.specs.Prelude.{Result, Option, List, ℕ, ◌<◌, length, take, IfOk}
use Rattle.std.specs.Io.KnownBytes.{Consumes, IsAtEnd}

-- on `Ok(n)`, the reader gave the buffer's first n bytes, and where the buffer is not full it had no more
abbrev pub ReadsFull : {E : Type 0} → Option (List ℕ) → Option (List ℕ) → Result ℕ E → List ℕ → Type 0
ReadsFull old new r bytes = IfOk r (λ n. Consumes old new (take n bytes) × (n < length bytes → IsAtEnd new))
