-- The text is put over as many bytes from the place on.
use Rattle.std.proofs.Common.{rules}
use Rattle.std.proofs.lemmas.Slice.{overwrites}
use Rattle.sheet_lines.proofs.write_bytes.Goals as goal

pub returns : goal.returns
returns c = search (rules, overwrites)
