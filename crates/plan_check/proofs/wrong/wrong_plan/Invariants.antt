-- The bytes before c are looked at.
use Rattle.std.proofs.Common.{◌≡◌}
use Rattle.model.specs.Tests.{some?}
use Rattle.plan_model.specs.Plans.{slots_on_in}
use Rattle.plan_fit.specs.Parts.{call_parts}
use Rattle.plan_check.specs.Laws.Answers.{wrong_at}
use Rattle.plan_check.proofs.wrong.wrong_plan.Given as goal

abbrev pub invariant-loop-c : goal.invariant-loop-c
invariant-loop-c l = l.wrong ≡ some? l.c (wrong_at (slots_on_in (call_parts l.counts l.slots)) l.plan)
