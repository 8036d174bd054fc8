-- WHOLE LISTS AT THE COMMAND ENTRY: the ledger's board after a list.
use Rattle.std.specs.Prelude.{List}
use Rattle.model.specs.Board.{Board}
use Rattle.model.specs.Ledger.{Member, fresh, run}

-- the calls, counts and rules in force after a list: the ledger's (SCOPE 6.8)
abbrev pub board_after : List Member → Board
board_after ms = (run fresh ms).board
