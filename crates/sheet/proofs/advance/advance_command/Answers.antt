-- What is obeyed on a state of some ledger has a short line.
use Rattle.sheet.specs.Laws.Advance.{held_short}
use Rattle.sheet.proofs.advance.advance_command.Goals as goal

pub answer_line-written-requires : goal.answer_line-written-requires
answer_line-written-requires c =
    record { room = c.requires.room; short_answer = held_short c.requires.held c.obey-outcome.ensures }
