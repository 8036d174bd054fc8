-- No call is laid, and all trials are left. The answer is that of the end.
use Rattle.std.proofs.Common.{arith}
use Rattle.plan_search.proofs.Laws.Full.{clear_first}
use Rattle.plan_lay.specs.declared.lay.Ending.TheVariants as ending
use Rattle.plan_lay.specs.Laws.Answers.{all_laid}
use Rattle.plan_lay.proofs.first.lay_all.Goals as goal

pub lay_calls-ending-requires : goal.lay_calls-ending-requires
lay_calls-ending-requires c = record { clear = clear_first; left_nonzero = omega arith; call_bound = omega arith }

pub returns-in-Found : goal.returns-in-Found
returns-in-Found c = all_laid _ ending.Found (rw (c.in-Found.is, c.from.ensures) at c.lay_calls-ending.ensures) c.trials_made-trials.ensures

pub returns-in-Nothing : goal.returns-in-Nothing
returns-in-Nothing c = all_laid _ ending.Nothing (rw (c.in-Nothing.is, c.from.ensures) at c.lay_calls-ending.ensures) c.trials_made-trials.ensures

pub returns-in-Stopped : goal.returns-in-Stopped
returns-in-Stopped c = all_laid _ ending.Stopped (rw (c.in-Stopped.is, c.from.ensures) at c.lay_calls-ending.ensures) c.trials_made-trials.ensures
