-- The call is the one before the stage.
use Rattle.std.proofs.Common.{refl, arith}
use Rattle.tables.specs.Laws.Masks.{shl_one}
use Rattle.masks.specs.Laws.Rules.{inserted_one}
use Rattle.plan_tables.proofs.due.add_due.Goals as goal

pub returns-then-stage-le32 : goal.returns-then-stage-le32
returns-then-stage-le32 c =
    rw (shl_one 64 c.args.p c.requires)
    (inserted_one _ _ _ _ (omega arith) (refl, omega (arith, c.from.ensures), omega arith) (λ d s x. let e = x.1 in (omega (arith, c.from.ensures), x.0)))
