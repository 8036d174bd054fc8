-- The flags of no pending rule, and of one. Assumes nothing.
use Rattle.std.specs.Prelude.{◌≡◌, refl, List, Bool, true, false, ℕ, ◌<◌, set, replicate}
use Rattle.std.proofs.Common.{sym, ap, ◌∙◌, set-set}
use Rattle.std.proofs.lemmas.List.{set-get_or}
use Rattle.tables.specs.Masks.{flags_of}
use Rattle.filter_propagate.specs.Queue.{Idle}
use Rattle.tables.specs.Laws.Flags.{flag_clear, flags_none}
use Rattle.tables.specs.Laws.Masks.{has_some}

-- the mask 0 has no rule
pub none_idle : Idle (flags_of 64 0)
none_idle q l = flag_clear 64 0 q l (λ h. has_some 0 q h refl)

-- the flag of p cleared where it is the only one, and where there is none
pub only_cleared : (n p : ℕ) → set (set (replicate n false) p true) p false ≡ set (flags_of n 0) p false
only_cleared n p = set-set (replicate n false) p true false ∙ ap (λ (l : List Bool). set l p false) (sym (flags_none n))

pub none_cleared : (n p : ℕ) → p < n → set (flags_of n 0) p false ≡ flags_of n 0
none_cleared n p l = rw (flag_clear n 0 p l (λ h. has_some 0 p h refl)) at (set-get_or (flags_of n 0) p false)
