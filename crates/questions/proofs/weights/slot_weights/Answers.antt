-- The rule is one test, computed over the whole table.
use Rattle.questions.proofs.Laws.Mask.{weights_tested}
use Rattle.questions.proofs.weights.slot_weights.Goals as goal

pub returns : goal.returns
returns c = weights_tested _ tt
