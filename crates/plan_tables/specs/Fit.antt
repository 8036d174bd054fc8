-- A PLAN LAID IN PART AGAINST THE RULES, by the tables: rows compared with the plan's slots as words.
use Rattle.std.specs.Prelude.{Bool, not, ◌||◌, List, ℕ, ◌+◌, ◌*◌, get_or, eqb}
use Rattle.tables.specs.Masks.{bit_of}
use Rattle.layout.specs.Places.{rows_of}
use Rattle.model.specs.Tests.{some?, every?}
use Rattle.plan_fit.specs.Words.{plan_byte}
use Rattle.plan_tables.specs.declared.lookup.Tables.{Tables}

-- the plan's slots for the columns of rule p that count, as a word
unfoldable pub wanted_by : List ℕ → List ℕ → ℕ → ℕ
wanted_by columns plan p =
    plan_byte plan (get_or columns (4 * p) 0) + 256 * plan_byte plan (get_or columns (4 * p + 1) 0) + 65536 * plan_byte plan (get_or columns (4 * p + 2) 0)
    + 16777216 * plan_byte plan (get_or columns (4 * p + 3) 0)

-- a row of rule p has them; and so has every rule of a mask
unfoldable pub fitted_by : Tables → List ℕ → ℕ → Bool
fitted_by t plan p = some? (rows_of t.lengths p) λ w. eqb (get_or t.words (64 * p + w) 0) (wanted_by t.columns plan p)

unfoldable pub stays_by : Tables → ℕ → List ℕ → Bool
stays_by t rules plan = every? 64 λ p. not (eqb (bit_of rules p) 1) || fitted_by t plan p
