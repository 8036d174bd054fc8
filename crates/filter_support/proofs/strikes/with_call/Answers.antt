-- A call where some slots were struck joins the mask, and where none was the mask stays.
use Rattle.std.proofs.Common.{arith}
use Rattle.filter_support.specs.Laws.Strikes.{call_joins}
use Rattle.filter_support.proofs.strikes.with_call.Goals as goal

pub returns-then-number-gt0 : goal.returns-then-number-gt0
returns-then-number-gt0 c = call_joins (omega arith) c.if-number-gt0.true
