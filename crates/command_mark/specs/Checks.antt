-- THE CHECKS OF KINDS 7 AND 8 OVER THE BYTES, as the code makes them on any contents. On a state that is a ledger's they are those of SCOPE 4.3 (Laws/Kinds).
use Rattle.std.specs.Prelude.{Bool, cond, List, [], ◌∷◌, ◌++◌, ℕ, get_or, eqb}
use Rattle.layout.specs.Names.{name_start}
use Rattle.model.specs.Ledger.{bad_name?}
use Rattle.model.specs.Representation.{no_calls?}
use Rattle.model.specs.Numbers as refused

abbrev pub keep_checks : List ℕ → ℕ → List (Bool × ℕ)
keep_checks counts name = (no_calls? counts, refused.no_board) ∷ (bad_name? name, refused.bad_name) ∷ []

-- the byte that says whether something is kept under a name; every name but 0 is taken for 1, so that any byte names one
abbrev pub kept_byte : List ℕ → ℕ → ℕ
kept_byte names name = cond (eqb name 0) (get_or names (name_start 0) 0) (get_or names (name_start 1) 0)

abbrev pub back_checks : List ℕ → List ℕ → ℕ → List (Bool × ℕ)
back_checks counts names name = keep_checks counts name ++ ((eqb (kept_byte names name) 0, refused.nothing_kept) ∷ [])
