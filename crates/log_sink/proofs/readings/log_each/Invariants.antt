-- The readings so far were tried.
use Rattle.no_std_io2.proofs.Words.{take}
use Rattle.log_sink.specs.Readings.{LogsReadings}
use Rattle.log_sink.proofs.readings.log_each.Given as goal

abbrev pub invariant-readings : goal.invariant-readings
invariant-readings g l = LogsReadings g.W.Write l.sensor l.initial.lines (take l.reading-index l.readings) l.lost l.lines
