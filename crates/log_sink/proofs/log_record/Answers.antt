-- The prover does not find the rewriting by the record that a `Line` shows.
use Rattle.log_sink.proofs.RecordAdds.{text_added}
use Rattle.log_sink.proofs.log_record.Goals as goal

pub returns : goal.returns
returns g c =
    let logs = rw c.new.ensures at c.log_text.ensures.logs in
    record { adds = text_added g.W.Write _ c.log_text.result logs; logs = logs }
