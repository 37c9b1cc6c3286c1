-- At most as many readings were lost as were logged.
use Rattle.std.proofs.Common.{◌≤◌}
use Rattle.log_sink.proofs.readings.log_readings.Given as goal

abbrev pub invariant-readings : goal.invariant-readings
invariant-readings g l = l.lost ≤ l.reading-index
