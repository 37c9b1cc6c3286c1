-- Each record leaves fewer bytes.
use Rattle.std.proofs.Common.{length}
use Rattle.record_log.specs.Walk.{records_rest}
use Rattle.logcat.proofs.print_records.Given as goal

abbrev pub decreases-records : goal.decreases-records
decreases-records g l = length (records_rest l.records)
