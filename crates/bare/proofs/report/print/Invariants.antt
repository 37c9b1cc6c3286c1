-- The lines of the readings so far were printed.
use Rattle.no_std_io2.proofs.Words.{[], take, Moves}
use Rattle.bare.specs.Report.{report}
use Rattle.bare.proofs.report.print.Given as goal

abbrev pub invariant-readings : goal.invariant-readings
invariant-readings g l = Moves (g.W.Write.told l.fn.w) (report (take l.i l.fn.readings)) [] (g.W.Write.told l.w)
