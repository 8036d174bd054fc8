-- GAP RULES, which order 3 calls standing forms: a rule of two calls that is given by the gap between their slots. Kind 6 drafts one.
use Rattle.std.specs.Prelude.{Bool, not, ◌&&◌, ◌||◌, cond, List, [], ◌∷◌, ℕ, ◌+◌, ◌*◌, ◌/◌, ◌%◌, get_or, eqb, ltb, leb}
use Rattle.model.specs.declared.command.GapRule.{GapRule}
use Rattle.model.specs.Board.{Rule}
use Rattle.model.specs.Listing.{rows_to}

-- 23: there is no such form; 24: a gap that no two slots can have, or one that is not 0 where the slots have to be equal
abbrev pub bad_form? : ℕ → Bool
bad_form? form = ltb form 1 || ltb 3 form

abbrev pub bad_gap? : ℕ → ℕ → Bool
bad_gap? form gap = ltb 31 gap || (eqb form 3 && not (eqb gap 0))

-- WHETHER SLOTS a AND b FIT A FORM: 1, a and the gap together are no more than b; 2, a and b are the gap or more apart, whichever is the lower; 3, they are equal
abbrev pub fits? : ℕ → ℕ → ℕ → ℕ → Bool
fits? form gap a b = cond (eqb form 1) (leb (a + gap) b) (cond (eqb form 2) (leb (a + gap) b || leb (b + gap) a) (eqb a b))

-- THE PAIRS of slots below 32 in rising order, of the first slot and then of the second: the pair at place i, whether it passes a test of two slots, and those
-- before place n that do
abbrev pub pair_of : ℕ → List ℕ
pair_of i = i / 32 ∷ i % 32 ∷ []

abbrev pub at_pair : (ℕ → ℕ → Bool) → ℕ → Bool
at_pair f i = f (i / 32) (i % 32)

abbrev pub pairs_to : ℕ → (ℕ → ℕ → Bool) → List (List ℕ)
pairs_to n f = rows_to pair_of n (at_pair f)

-- THE ROWS OF A FORM between calls with n and m slots: the pairs of their slots that fit
abbrev pub pair_test : ℕ → ℕ → ℕ → ℕ → ℕ → Bool
pair_test form gap m a b = ltb b m && fits? form gap a b

abbrev pub rows_of_gap : ℕ → ℕ → ℕ → ℕ → List (List ℕ)
rows_of_gap form gap n m = pairs_to (32 * n) (pair_test form gap m)

-- THE RULE on a board with these slot counts
abbrev pub rule_of_gap : List ℕ → GapRule → Rule
rule_of_gap counts f =
    record { scope = f.first ∷ f.second ∷ []; rows = rows_of_gap f.form f.gap (get_or counts f.first 0) (get_or counts f.second 0) }
