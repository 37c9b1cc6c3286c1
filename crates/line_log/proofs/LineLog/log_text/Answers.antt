-- The prover does not find the rewriting by what `answer` returns.
use Rattle.line_log.proofs.LineLog.log_text.Goals as goal

pub returns : goal.returns
returns g c = record { logs = rw c.answer.ensures c.print_line.ensures.logs }
