-- WHAT THE SHEET PROMISES (SCOPE 7), for every input and every lent buffer.
use Rattle.std.specs.Prelude.{◌≡◌, cond, List, [], ◌∷◌, ◌++◌, ℕ, length, drop, ltb, Result, Ok, Err}
use Rattle.model.specs.declared.refusal.Refusal.{Refusal}
use Rattle.model.specs.Promise.{values_at}
use Rattle.model.specs.Refusals.{number_of}
use Rattle.model.specs.Sheet.{sheet_of}
use Rattle.sheet.specs.Bounds.{sheet_most}
use Rattle.model.specs.Numbers as refused

-- AN ANSWER'S VALUES (SCOPE 10.5): with the number 0 the length of what was written; of a refusal none (4.2)
abbrev pub sheet_values : Result ℕ Refusal → List ℕ
sheet_values (Ok n) = n ∷ []
sheet_values (Err e) = []

-- the buffer held `before`, and now holds `after`
pub record SheetPromise (input before : List ℕ) (given : Result ℕ Refusal) (after : List ℕ) : Type 0 where
  -- 1 where the buffer is too short for the longest sheet (SCOPE 7.10)
  pub number : number_of given ≡ cond (ltb (length before) sheet_most) refused.buffer_length 0
  -- all lines, `end` with them, are model's sheet_of
  pub values : sheet_values given ≡ values_at (cond (ltb (length before) sheet_most) refused.buffer_length 0) (length (sheet_of input) ∷ [])
  -- refused, the buffer is as it was (SCOPE 4.2); otherwise the sheet stands at the start, and what is behind it is as it was
  pub bytes : after ≡ cond (ltb (length before) sheet_most) before (sheet_of input ++ drop (length (sheet_of input)) before)
