-- The prover does not find the rewriting of a string by its bytes.
use Rattle.line_log.proofs.LineLog.log.Goals as goal

pub returns : goal.returns
returns g c = record { logs = rw c.as_bytes.ensures.value at c.log_bytes.ensures.logs }
