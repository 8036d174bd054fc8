-- The bytes before c are looked at.
use Rattle.std.proofs.Common.{arith}
use Rattle.plan_check.specs.Laws.Answers.{wrong_all}
use Rattle.plan_check.proofs.wrong.wrong_plan.Goals as goal

pub returns : goal.returns
returns c = wrong_all _ _ {c = c.loop-c.c} c.loop-c.invariant (omega arith)
