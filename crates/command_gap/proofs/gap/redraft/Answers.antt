-- What the fields refuse is refused.
use Rattle.std.proofs.Common.{◌≡◌, rules, Err}
use Rattle.command_gap.proofs.Laws.Checks.{redraws_refused}
use Rattle.command_gap.proofs.gap.redraft.Goals as goal

pub returns-in_err-check_fields : goal.returns-in_err-check_fields
returns-in_err-check_fields c =
    let e : c.from_residual.result ≡ Err c.in_err-check_fields.field-0.0 = search rules in
    rw e (redraws_refused _ _ _ _ c.in_err-check_fields.ensures)
