-- WHEN A RULE FALLS DUE in a search that lays calls in rising order: with the last of its calls that are not cancelled. It is never due where one of them cannot be laid.
use Rattle.std.specs.Prelude.{◌≡◌, cond, List, ℕ, ◌+◌, ◌*◌, ◌<◌, max, length, get_or, eqb, ltb}
use Rattle.tables.specs.Masks.{IsMask}

-- THE STAGE OF A COLUMN: how many calls are passed when its own is laid; 0 where it does not count, and 64 where its call is not to be laid
unfoldable pub column_stage : List ℕ → ℕ → ℕ
column_stage calls call = cond (ltb call 32) (cond (eqb (get_or calls call 0) 0) 64 (call + 1)) 0

-- of a rule: the last of its columns'
unfoldable pub rule_stage : List ℕ → List ℕ → ℕ → ℕ
rule_stage calls columns p =
    max (max (column_stage calls (get_or columns (4 * p) 0)) (column_stage calls (get_or columns (4 * p + 1) 0)))
    (max (column_stage calls (get_or columns (4 * p + 2) 0)) (column_stage calls (get_or columns (4 * p + 3) 0)))

-- rule p, at this stage, joins the rules that call c makes due
abbrev pub DueAt : ℕ → ℕ → ℕ → ℕ → Type 0
DueAt p stage c q = (q ≡ p) × (stage ≡ c + 1) × (c < 32)

-- THE RULES THAT EACH CALL MAKES DUE, among the first n
pub record DueRules (calls columns : List ℕ) (n : ℕ) (due : List ℕ) : Type 0 where
  pub long : length due ≡ 32
  pub each : (c : ℕ) → c < 32 → IsMask (λ p. rule_stage calls columns p ≡ c + 1) n (get_or due c 0)
