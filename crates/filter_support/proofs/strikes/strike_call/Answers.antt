-- What is open and not found is what is struck, and what the masks of the call lose and gain.
use Rattle.std.proofs.Common.{refl, arith, rules}
use Rattle.filter_support.specs.Laws.Known.{lost_open, lost_strikes, still_struck}
use Rattle.filter_support.proofs.strikes.strike_call.Goals as goal

pub strike_slots-requires-clause-all_open : goal.strike_slots-requires-clause-all_open
strike_slots-requires-clause-all_open c =
    let start = c in
    let lost = c.set_difference-lost in
    lost_open _ start.args.masks.now _ start.args.found _ (start.requires.known.each _ (omega arith) refl) (omega (arith, lost.type_inv)) lost.ensures

pub returns : goal.returns
returns c =
    let start = c in
    let lost = c.set_difference-lost in
    let known = start.requires.known.each _ (omega arith) refl in
    let strikes = c.strike_slots.ensures in
    record {
      slots_struck = lost_strikes _ start.args.masks.now _ _ _ known (omega (arith, lost.type_inv)) lost.ensures _ _ _ (omega arith) strikes;
      still_known = still_struck _ start.args.masks.now _ _ _ known (omega (arith, lost.type_inv)) lost.ensures _ _ _ (omega arith) strikes (search rules) (search rules);
    }
