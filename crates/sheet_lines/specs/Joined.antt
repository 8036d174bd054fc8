-- BYTES OF EACH NUMBER below a bound, one after another: what a loop writes that appends the bytes f i in its round i. Assumes nothing.
use Rattle.std.specs.Prelude.{List, [], ◌++◌, ℕ, zero, suc}

-- f 0, f 1 and so on, up to the one before f n
unfoldable pub joined : (ℕ → List ℕ) → ℕ → List ℕ
joined f zero = []
joined f (suc n) = joined f n ++ f n
