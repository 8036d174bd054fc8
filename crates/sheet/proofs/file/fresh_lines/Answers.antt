-- The loop keeps what `Reached` says: what is written and what is left to be written are all of the lines. A round reads on, so the measure falls.
use Rattle.std.proofs.Common.{refl, arith}
use Rattle.sheet.specs.Laws.File.{reached_start, reads_on, reached_advance, reached_end}
use Rattle.sheet.proofs.file.fresh_lines.Goals as goal

pub loop-progress-init : goal.loop-progress-init
loop-progress-init c = reached_start _ _ _ _ refl refl c.requires.represents_marked

pub loop-progress-smaller : goal.loop-progress-smaller
loop-progress-smaller c =
    omega (arith, c.loop-progress-test.true, reads_on _ _ _ _ _ _ _ _ c.loop-progress.invariant c.loop-progress-test.true c.advance-progress.ensures)

pub loop-progress-preserved : goal.loop-progress-preserved
loop-progress-preserved c =
    reached_advance _ _ _ _ _ _ _ _ c.loop-progress.invariant c.loop-progress-test.true c.advance-progress.ensures

pub returns : goal.returns
returns c =
    reached_end _ _ _ _ _ c.loop-progress.invariant c.requires.fits c.loop-progress-test.false _ _ c.board_lines.ensures
