-- Laws of buffers that hold one byte throughout. Assumes nothing.
use Rattle.std.specs.Prelude.{◌≡◌, List, ℕ, ◌<◌, replicate}
use Rattle.std.proofs.Common.{sym, subst, ◌∙◌, ext_get_or}
use Rattle.std.proofs.lemmas.List.{length-replicate, get_or-replicate}
use Rattle.layout.specs.Memory.{Filled}

pub filled : (n v : ℕ) → Filled n v (replicate n v)
filled n v = record { size = length-replicate n v; all = λ j h. get_or-replicate n j v 0 h }

-- and no other buffer is filled so. Said of any length, so that no long list unfolds
pub filled_is : (n v : ℕ) (l : List ℕ) → Filled n v l → l ≡ replicate n v
filled_is n v l f =
    ext_get_or 0 l (replicate n v) (f.size ∙ sym (length-replicate n v))
    (λ j h. let lt = subst (λ (m : ℕ). j < m) f.size h in f.all j lt ∙ sym (get_or-replicate n j v 0 lt))
