-- What is refused is by its form; what is obeyed is by its kind.
use Rattle.std.proofs.Common.{refl}
use Rattle.model.specs.Ledger.{lengths}
use Rattle.model.proofs.Laws.Entry.{refused_end, refused_read, refused_left_over}
use Rattle.command_obey.proofs.Laws.Obeys.{obeys_promise}
use Rattle.command_run.proofs.obey_read.Goals as goal

pub returns-then-decoded-bytes : goal.returns-then-decoded-bytes
returns-then-decoded-bytes c =
    rw c.refused.ensures
    (refused_left_over lengths _ _ refl refl _ c.requires _ c.in-Command.is c.if-decoded-bytes.true)

pub returns-else-decoded-bytes : goal.returns-else-decoded-bytes
returns-else-decoded-bytes c =
    obeys_promise _ c.requires c.in-Command.is c.if-decoded-bytes.false c.obey.ensures

pub returns-in-Refused : goal.returns-in-Refused
returns-in-Refused c =
    rw c.refused-in-Refused.ensures (refused_read lengths _ _ refl refl _ c.requires _ _ c.in-Refused.is)

pub returns-in-End : goal.returns-in-End
returns-in-End c =
    rw c.refused-in-End.ensures (refused_end lengths _ _ refl refl _ c.requires c.in-End.is)
