-- What propagate does: steps one after another, until no rule is pending.
use Rattle.std.specs.Prelude.{◌≡◌, ℕ, ◌+◌}
use Rattle.tables.specs.Count.{count}
use Rattle.filter_propagate.specs.Rules.{RuleBytes, Progress}
use Rattle.filter_support.specs.Strikes.{is_open}
use Rattle.filter_propagate.specs.Queue.{Idle}
use Rattle.filter_propagate.specs.Step.{Stepped}

-- what steps reach from x: the reflexive-transitive closure of a step
pub data Steps (R : RuleBytes) (x : Progress) : Progress → Type 0 where
  start : Steps R x x
  more : {y z : Progress} {p r : ℕ} → Steps R x y → Stepped R p r y z → Steps R x z

-- propagate: steps, after which no rule is pending, and r slots fewer are open
pub record Propagated (R : RuleBytes) (r : ℕ) (x z : Progress) : Type 0 where
  pub steps : Steps R x z
  pub idle : Idle z.pending
  pub drop : count is_open z.slots + r ≡ count is_open x.slots
