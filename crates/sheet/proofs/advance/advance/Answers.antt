-- By what was read: a command has its own round; a refusal gives its own line; at the end nothing is written.
use Rattle.std.proofs.Common.{refl}
use Rattle.sheet.specs.Laws.Advance.{advanced_same, advanced_command, advanced_refused, advanced_end}
use Rattle.sheet.proofs.advance.advance.Goals as goal

pub returns-in-Command : goal.returns-in-Command
returns-in-Command c =
    advanced_same c.decode-decoded.ensures
    (advanced_command _ _ _ _ _ _ _ c.in-Command.is _ _ c.advance_command.ensures)

pub returns-in-Refused : goal.returns-in-Refused
returns-in-Refused c =
    advanced_same c.decode-decoded.ensures
    (advanced_refused _ _ _ _ _ _ _ _ c.in-Refused.is _ refl c.refusal_line-written.ensures)

pub returns-in-End : goal.returns-in-End
returns-in-End c =
    advanced_same c.decode-decoded.ensures (advanced_end _ _ _ _ _ _ c.in-End.is refl refl)
