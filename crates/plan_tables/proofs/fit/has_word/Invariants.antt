-- The rows before w are looked at.
use Rattle.std.proofs.Common.{◌+◌, ◌*◌, eqb, get_or}
use Rattle.plan_fit.specs.Words.{SomeBetween}
use Rattle.plan_tables.proofs.fit.has_word.Given as goal

abbrev pub invariant-loop-w : goal.invariant-loop-w
invariant-loop-w l = SomeBetween (λ v. eqb (get_or l.tables.words (64 * l.p + v) 0) l.wanted) 0 l.w l.found
