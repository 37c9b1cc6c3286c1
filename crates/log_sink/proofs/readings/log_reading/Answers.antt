-- The prover does not find the text of the record that was made.
use Rattle.no_std_io2.proofs.Words.{◌++◌, Some, subst, ap₂, append-nil}
use Rattle.std.proofs.Common.{decimal}
use Rattle.log.specs.Line.{header_text}
use Rattle.line_log.specs.Log.{LogsText}
use Rattle.log_sink.proofs.readings.log_reading.Goals as goal

pub returns-clause-logs : goal.returns-clause-logs
returns-clause-logs g c =
    let record_is = c.new-record.ensures in
    let metadata_is = c.new-metadata.ensures in
    let logs = rw (record_is.metadata, record_is.args) at c.log_record.ensures.logs in
    let text = ap₂ (λ h d. h ++ d) (ap₂ header_text metadata_is.0 metadata_is.1) (append-nil (decimal c.args.reading)) in
    subst (λ t. LogsText g.W.Write (Some t) c.args.lines.now c.log_record.result c.log_record.new.lines) text logs
