-- A CANCELLATION ON A STORED BOARD leaves the board stored with the call cancelled. What is struck and was not touched is grounded as it was; what reopened and lost its
-- support is struck again by propagation. No slot that was open is struck: fewer calls that count leave no fewer slots viable on the others.
use Rattle.std.specs.Prelude.{◌≡◌, List, ℕ}
use Rattle.layout.specs.declared.value.Heads.{Heads}
use Rattle.model.specs.Board.{Board}
use Rattle.model.specs.Ledger.{cancel_call}
use Rattle.model.specs.Report.{struck_between, reopened_between, CancelTouched}
use Rattle.model.specs.Representation.{Stored}

-- what a cancellation of call c gives on a stored board
pub record CancelStored (B : Board) (c : ℕ) (heads : Heads) (rows killers killers' slots slots' : List ℕ) (reopened touched : ℕ) : Type 0 where
  pub stored : Stored (cancel_call B c) heads rows killers' slots'
  pub none_struck : struck_between slots slots' ≡ 0
  pub reopened_is : reopened_between slots slots' ≡ reopened
  pub touched_is : CancelTouched B c killers slots touched
