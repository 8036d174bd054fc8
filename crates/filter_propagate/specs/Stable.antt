-- A rule is stable when its living rows hold no struck slot and each open slot on its calls has a support. A step keeps every rule stable that is not pending.
use Rattle.std.specs.Prelude.{◌≡◌, List, false, ℕ, ◌<◌, get_or}
use Rattle.filter_propagate.specs.Rules.{RuleBytes, Progress}
use Rattle.filter_support.specs.Rows.{NoneStruck, Support}
use Rattle.layout.specs.Places.{columns_of, rows_of, call_of, killer_of, slot_place}

pub record StableBytes (R : RuleBytes) (killers slots : List ℕ) (q : ℕ) : Type 0 where
  pub alive : (w : ℕ) → w < rows_of R.lengths q → killer_of killers q w ≡ 255 → NoneStruck R.rows slots R.scope q (columns_of R.arity q) w
  pub held : (k s : ℕ) → k < columns_of R.arity q → s < 32 → get_or slots (slot_place (call_of R.scope q k) s) 0 ≡ 255 → Support R.rows killers q (rows_of R.lengths q) k s

-- every rule that is not pending is stable
abbrev pub Calm : RuleBytes → Progress → Type 0
Calm R x = (q : ℕ) → q < 64 → get_or x.pending q false ≡ false → StableBytes R x.killers x.slots q
