-- The names have their length.
use mathlib.Core.Path.{sym, ap}
use Prim.Native.Nat.{ℕ, ◌+◌}
use Rattle.layout.specs.Names.{fresh_marked}
use Rattle.layout.specs.Laws.Names.{no_names_size}
use Rattle.berth.specs.Version.{board_size}
use Rattle.berth.proofs.berth_value_size.Goals as goal

pub returns : goal.returns
returns c = ap (λ (n : ℕ). board_size fresh_marked.value + n) (sym no_names_size)
