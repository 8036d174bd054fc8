-- All of the table is replaced.
use Rattle.std.proofs.Common.{◌≡◌, ◌∙◌, rules, length}
use Rattle.layout.specs.Sizes.{records_length}
use Rattle.board.specs.Laws.Store.{replaced_all}
use Rattle.board.proofs.store.Goals as goal

pub returns-in-Some : goal.returns-in-Some
returns-in-Some c =
    let size : length c.in-Some.records.records ≡ records_length = search rules in
    rw c.in-Some.is (c.store_records.ensures ∙ replaced_all records_length c.in-Some.records.records c.args.table.now size (rw c.in-Some.is at c.requires))
