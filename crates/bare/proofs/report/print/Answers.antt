-- The search does not join the next text with those that were printed, nor all of them with the flush.
use Rattle.no_std_io2.proofs.{Words.{common_steps, arith}, MovesLemmas.{Moves-refl}, TextLemmas.{MovesFront-text}}
use Rattle.std.proofs.Common.{take_all}
use Rattle.bare.specs.Report.{reading_line}
use Rattle.bare.proofs.KeptLemmas.{printed_more, printed_all}
use Rattle.bare.proofs.report.print.Goals as goal

pub readings-init : goal.readings-init
readings-init g c = Moves-refl _

pub readings-preserved : goal.readings-preserved
readings-preserved g c =
    printed_more reading_line c.args.readings.now c.readings.i (omega (arith, c.readings-test.true)) c.in_ok-write.was
    c.readings.invariant (MovesFront-text c.write.ensures.law.moves)

pub returns-clause-text : goal.returns-clause-text
returns-clause-text g c = grind (arith, common_steps, printed_all, take_all)
