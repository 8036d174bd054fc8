-- The slots that are not left are struck; the lowest of those left is next.
use Rattle.std.proofs.Common.{◌≡◌, ◌≤◌, List, ℕ, length, arith}
use Rattle.tables.specs.Laws.Count.{count_le}
use Rattle.filter_support.specs.Strikes.{is_open}
use Rattle.filter_support.specs.Laws.Strikes.{Striking, slot_below, striking_more, striking_done}
use Rattle.filter_support.proofs.strikes.strike_slots.Goals as goal

few : {lost p c left total : ℕ} {old new : List ℕ} → Striking lost p c old new left total → length old ≡ 1024 → total ≤ 1024
few {old = old} x size = let drop = x.struck.drop in omega (arith, count_le is_open old)

pub overflow_add-total : goal.overflow_add-total
overflow_add-total c = omega (arith, few c.loop-left.invariant c.told-slots)

pub loop-left-preserved : goal.loop-left-preserved
loop-left-preserved c =
    let below = slot_below c.requires.all_open c.loop-left-test.true c.loop-left.invariant in
    let size = c.loop-left.invariant.struck.assigned.len in
    striking_more c.requires.all_open c.loop-left-test.true c.loop-left.invariant (omega arith) (omega (arith, c.told-slots))

pub returns : goal.returns
returns c = striking_done (omega arith) c.loop-left-test.false c.loop-left.invariant
