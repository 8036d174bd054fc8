-- The heads of a board after one of its rules was written.
use Rattle.layout.specs.declared.value.Heads.{Heads}
use Rattle.filter_propagate.specs.Rules.{RuleBytes}

-- the heads with the rules' heads of R
abbrev pub with_rule_heads : Heads → RuleBytes → Heads
with_rule_heads h R = record { counts = h.counts; arity = R.arity; scope = R.scope; lengths = R.lengths }
