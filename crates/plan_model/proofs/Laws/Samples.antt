-- THE SAMPLE PLANS FOLLOW FROM THE DEFINITIONS: one computation over the list of them. Assumes nothing.
use Rattle.std.specs.Prelude.{◌≡◌, refl, map}
use Rattle.model.specs.Board.{active?}
use Rattle.model.specs.Samples.{ledger_of}
use Rattle.plan_model.specs.Plans.{fits?, fitted?, binds?, breaks?, lowest_broken}
use Rattle.plan_model.specs.Check.{wrong_plan?}
use Rattle.plan_model.specs.Samples.{PlanSample, plan_outcome, plan_samples}

pub plans_right : map (λ (x : PlanSample). plan_outcome (ledger_of x.commands) x.bytes) plan_samples ≡ map (λ (x : PlanSample). x.outcome) plan_samples
unfolding active? wrong_plan? lowest_broken breaks? binds? fitted? fits?
plans_right = refl
