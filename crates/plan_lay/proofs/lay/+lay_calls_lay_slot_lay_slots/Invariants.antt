-- The calls that are left fall, and with one call the slots that are left.
use Rattle.std.proofs.Common.{◌+◌, ◌-◌, ◌*◌}
use Rattle.plan_lay.proofs.lay.+lay_calls_lay_slot_lay_slots.Given as goal

abbrev pub decreases-lay_calls : goal.decreases-lay_calls
decreases-lay_calls l = (33 - l.call) * 80

abbrev pub decreases-lay_slot : goal.decreases-lay_slot
decreases-lay_slot l = (32 - l.call) * 80 + (39 - l.slot) * 2

abbrev pub decreases-lay_slots : goal.decreases-lay_slots
decreases-lay_slots l = (32 - l.call) * 80 + (39 - l.slot) * 2 + 1
