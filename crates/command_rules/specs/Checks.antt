-- THE CHECKS OF KINDS 4 AND 5 OVER THE BYTES, as the code makes them on any contents. On a state that is a ledger's they are those of SCOPE 4.3 (Laws/Checks).
use Rattle.std.specs.Prelude.{Bool, not, List, [], ◌∷◌, ℕ, ◌%◌, get_or, eqb}
use Rattle.model.specs.Ledger.{bad_number?}
use Rattle.model.specs.Representation.{no_calls?}
use Rattle.model.specs.Numbers as refused

-- 17: the rule under the number has no column. A number is taken modulo 64, so that any byte names one
abbrev pub no_rule? : List ℕ → ℕ → Bool
no_rule? arity number = eqb (get_or arity (number % 64) 0) 0

-- KIND 4, in the order of SCOPE 4.3, for a draft of this number and so many columns
abbrev pub post_checks : List ℕ → List ℕ → ℕ → ℕ → List (Bool × ℕ)
post_checks counts arity number columns = (no_calls? counts, refused.no_board) ∷ (eqb columns 0, refused.no_draft) ∷ (not (no_rule? arity number), refused.in_force) ∷ []

-- KIND 5, in the order of SCOPE 4.3
abbrev pub retract_checks : List ℕ → List ℕ → ℕ → List (Bool × ℕ)
retract_checks counts arity number = (no_calls? counts, refused.no_board) ∷ (bad_number? number, refused.bad_number) ∷ (no_rule? arity number, refused.not_in_force) ∷ []
