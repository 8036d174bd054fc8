-- A post: the rule is written, and propagation starts from it alone.
use Rattle.std.specs.Prelude.{List, Bool, ℕ}
use Rattle.layout.specs.declared.value.RuleData.{RuleData}
use Rattle.filter_propagate.specs.Rules.{RuleBytes, reached}
use Rattle.filter_propagate.specs.Queue.{only_rule}
use Rattle.filter_propagate.specs.Steps.{Propagated}
use Rattle.filter_post.specs.Write.{RuleWritten}

-- THE POST OF A RULE under number p, which struck s slots
pub record PostDone (p s : ℕ) (rule : RuleData) (R R' : RuleBytes) (killers killers' slots slots' : List ℕ) : Type 0 where
  pub written : RuleWritten p rule R R'
  -- the flags at the end, of which none is set
  pub flags : List Bool
  pub propagated : Propagated R' s (reached killers slots (only_rule p)) (reached killers' slots' flags)
