-- Field by field.
use Rattle.layout.proofs.names.heads_under.Goals as goal

pub returns : goal.returns
returns c = rw (c.load.ensures, c.load-2.ensures, c.load-3.ensures, c.load-4.ensures)
