-- What every step keeps, steps keep; and a step before steps. Assumes nothing.
use Rattle.std.specs.Prelude.{ℕ, ◌+◌}
use Rattle.std.proofs.Common.{arith}
use Rattle.filter_propagate.specs.Rules.{RuleBytes, Progress}
use Rattle.filter_propagate.specs.Step.{Stepped}
use Rattle.filter_propagate.specs.Steps.{Steps, start, more, Propagated}

-- what every step keeps, steps keep
pub along : (R : RuleBytes) (P : Progress → Type 0) → ((p r : ℕ) (y z : Progress) → Stepped R p r y z → P y → P z) → {x z : Progress} → P x → Steps R x z → P z
along R P keep h start = h
along R P keep h (more {y = y} {z = z} {p = p} {r = r} before step) = keep p r y z step (along R P keep h before)

-- one step and then steps are steps
pub steps_before : (R : RuleBytes) {p r : ℕ} {x y z : Progress} → Stepped R p r x y → Steps R y z → Steps R x z
steps_before R st start = more start st
steps_before R st (more before step) = more (steps_before R st before) step

pub propagated_before : (R : RuleBytes) {p r s : ℕ} {x y z : Progress} → Stepped R p r x y → Propagated R s y z → Propagated R (r + s) x z
propagated_before R st v =
    let d = st.revised.strikes.drop in
    let e = v.drop in
    record { steps = steps_before R st v.steps; idle = v.idle; drop = omega arith }
