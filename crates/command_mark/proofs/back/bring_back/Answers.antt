-- Each buffer is as long as its part.
use Rattle.std.specs.Prelude.{◌≡◌, length}
use Rattle.std.proofs.Common.{rules}
use Rattle.layout.specs.Sizes.{killers_length, rows_length, slots_length}
use Rattle.command_mark.proofs.back.bring_back.Goals as goal

pub returns : goal.returns
returns c =
    let rows : length c.args.rows.now ≡ rows_length = search rules in
    let killers : length c.args.killers.now ≡ killers_length = search rules in
    let slots : length c.args.slots.now ≡ slots_length = search rules in
    record {
      rows_are = rw (← rows) c.read_part.ensures;
      killers_are = rw (← killers) c.read_part-2.ensures;
      slots_are = rw (← slots) c.read_part-3.ensures;
    }
