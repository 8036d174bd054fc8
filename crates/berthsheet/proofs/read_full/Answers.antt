-- What a read gives lies behind what was read before.
use Rattle.std.proofs.Common.{rules, arith, ◌-◌, length}
use Rattle.std.proofs.KnownBytes.{Consumes-trans}
use Rattle.berthsheet.proofs.Streams.{take_read}
use Rattle.berthsheet.proofs.read_full.Goals as goal

pub loop-preserved : goal.loop-preserved
loop-preserved g c =
    let l = c.loop in
    let more = Consumes-trans _ _ _ _ _ l.invariant.read c.in_ok-read.ensures.bytes.0 in
    record {
      room = search rules;
      rounds = omega arith;
      read = rw (take_read l.n (length l.bytes - l.n) c.in_ok-read.read l.bytes c.read.new.buf (omega arith) (search rules)) more;
    }
