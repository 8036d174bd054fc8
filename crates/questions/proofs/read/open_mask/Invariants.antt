-- The loop's invariant: the slots below s are in the mask. Each round adds slot s, by its weight.
use Rattle.model.specs.Report.{open?}
use Rattle.questions.specs.Mask.{SummedTo}
use Rattle.questions.proofs.read.open_mask.Given as goal

abbrev pub invariant-loop-s : goal.invariant-loop-s
invariant-loop-s l = SummedTo (open? l.slots l.call) l.s l.mask
