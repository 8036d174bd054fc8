-- LAWS OF GAP RULES, by those of rows in rising order (Laws.Listing): the pairs that pass a test rise, a row of a form is a pair that fits, and each pair that fits is a
-- row; and the rule is one that a board could have. Assumes nothing.
use Rattle.std.specs.Prelude.{◌≡◌, Bool, List, [], ◌∷◌, ◌≢◌, ℕ, zero, suc, ◌+◌, ◌*◌, ◌/◌, ◌%◌, ◌<◌, ◌≤◌, length, get_or, T, ltb}
use Rattle.std.proofs.Common.{ap, arith, ltb→lt, lt→ltb}
use Rattle.model.specs.declared.command.GapRule.{GapRule}
use Rattle.model.specs.Board.{Rule, call_at, slot_at, GoodRule}
use Rattle.model.specs.Gaps.{fits?, pair_of, at_pair, pairs_to, pair_test, rows_of_gap, rule_of_gap}
use Rattle.model.proofs.Laws.Tests.{and→, →and}
use Rattle.model.proofs.Laws.Listing.{listed_passed, passed_listed, listed_rise, listed_apart}

-- THE PAIRS RISE, by the first slot and then by the second
abbrev pub rank : List ℕ → ℕ
rank row = 32 * get_or row 0 0 + get_or row 1 0

pair_rank : (i j : ℕ) → i < j → rank (pair_of i) < rank (pair_of j)
pair_rank i j h = omega arith

pub rows_rise : (n : ℕ) (f : ℕ → ℕ → Bool) (v w : ℕ) → v < w → w < length (pairs_to n f) → rank (get_or (pairs_to n f) v []) < rank (get_or (pairs_to n f) w [])
rows_rise n f = listed_rise pair_of (at_pair f) rank pair_rank n

-- so no two are the same
pub rows_apart : (n : ℕ) (f : ℕ → ℕ → Bool) (v w : ℕ) → v < w → w < length (pairs_to n f) → get_or (pairs_to n f) v [] ≢ get_or (pairs_to n f) w []
rows_apart n f = listed_apart pair_of (at_pair f) rank pair_rank n

-- A ROW OF A FORM has two slots, one of each call, which fit
pub record GapRow (form gap n m : ℕ) (row : List ℕ) : Type 0 where
  pub first : ℕ
  pub second : ℕ
  pub first_on : first < n
  pub second_on : second < m
  pub fits : T (fits? form gap first second)
  pub is : row ≡ first ∷ second ∷ []

pub gap_row : (form gap n m w : ℕ) → w < length (rows_of_gap form gap n m) → GapRow form gap n m (get_or (rows_of_gap form gap n m) w [])
gap_row form gap n m w h =
    let p = listed_passed pair_of (at_pair (pair_test form gap m)) (32 * n) w h in
    let both = and→ (ltb (p.place % 32) m) (fits? form gap (p.place / 32) (p.place % 32)) p.passes in
    let below = p.below in
    record {
      first = p.place / 32;
      second = p.place % 32;
      first_on = omega arith;
      second_on = ltb→lt (p.place % 32) m both.0;
      fits = both.1;
      is = p.is;
    }

-- and two slots that fit, one of each call, are a row
pub row_gap : (form gap n m a b : ℕ) → a < n → b < m → m ≤ 32 → T (fits? form gap a b)
    → (w : ℕ) × (w < length (rows_of_gap form gap n m)) × (get_or (rows_of_gap form gap n m) w [] ≡ a ∷ b ∷ [])
row_gap form gap n m a b la lb few t =
    let q : (32 * a + b) / 32 ≡ a = omega arith in
    let r : (32 * a + b) % 32 ≡ b = omega arith in
    rw (q, r) at
    (passed_listed pair_of (at_pair (pair_test form gap m)) (32 * n) (32 * a + b) (omega arith)
    (rw (q, r) (→and (ltb b m) (fits? form gap a b) (lt→ltb b m lb) t)))

-- SO THE RULE IS ONE THAT A BOARD COULD HAVE, where its calls are two of the board's and there is room for its rows
module _ (counts : List ℕ) (f : GapRule) (first_on : f.first < length counts) (second_on : f.second < length counts) (differ : f.first ≢ f.second) where
  abbrev rule : Rule
  rule = rule_of_gap counts f

  row_at : (w : ℕ) → w < length rule.rows → GapRow f.form f.gap (get_or counts f.first 0) (get_or counts f.second 0) (get_or rule.rows w [])
  row_at w h = gap_row f.form f.gap (get_or counts f.first 0) (get_or counts f.second 0) w h

  on : (k : ℕ) → k < 2 → call_at rule k < length counts
  on zero h = first_on
  on (suc zero) h = second_on
  on (suc (suc k)) h = absurd (omega arith)

  columns_differ : (j k : ℕ) → j < k → k < 2 → call_at rule j ≢ call_at rule k
  columns_differ zero (suc zero) h l = differ
  columns_differ zero (suc (suc k)) h l = absurd (omega arith)
  columns_differ (suc j) k h l = absurd (omega arith)
  columns_differ zero zero h l = absurd (omega arith)

  on_call : (w k : ℕ) → w < length rule.rows → k < 2 → slot_at rule w k < get_or counts (call_at rule k) 0
  on_call w zero h l = let row = row_at w h in rw row.is row.first_on
  on_call w (suc zero) h l = let row = row_at w h in rw row.is row.second_on
  on_call w (suc (suc k)) h l = absurd (omega arith)

  pub gap_good : length rule.rows ≤ 64 → GoodRule counts rule
  gap_good few =
      record {
        most = omega arith;
        least = omega arith;
        scope = on;
        apart = columns_differ;
        few = few;
        width = λ w h. ap length (row_at w h).is;
        slots = on_call;
        rows = rows_apart (32 * get_or counts f.first 0) (pair_test f.form f.gap (get_or counts f.second 0));
      }
