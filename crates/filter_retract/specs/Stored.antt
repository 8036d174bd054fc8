-- A RETRACTION ON A STORED BOARD leaves the board stored without the rule. What is struck and was not touched is grounded as it was; what reopened and lost its support
-- is struck again by propagation. No slot that was open is struck: fewer rules leave no fewer slots viable.
use Rattle.std.specs.Prelude.{◌≡◌, List, ℕ}
use Rattle.std.proofs.Math.Option.{none}
use Rattle.layout.specs.declared.value.Heads.{Heads}
use Rattle.model.specs.Board.{Board}
use Rattle.model.specs.Ledger.{with_rule}
use Rattle.model.specs.Report.{struck_between, reopened_between, RetractTouched}
use Rattle.model.specs.Representation.{Stored}
use Rattle.filter_propagate.specs.Rules.{RuleBytes}
use Rattle.filter_post.specs.Rules.{with_rule_heads}

-- what a retraction gives on a stored board
pub record RetractStored (B : Board) (p : ℕ) (heads : Heads) (R' : RuleBytes) (killers killers' slots slots' : List ℕ) (reopened touched : ℕ) : Type 0 where
  pub stored : Stored (with_rule B p none) (with_rule_heads heads R') R'.rows killers' slots'
  pub none_struck : struck_between slots slots' ≡ 0
  pub reopened_is : reopened_between slots slots' ≡ reopened
  pub touched_is : RetractTouched B p killers slots touched
