-- The group is encoded by itself, also if the call failed; the search does not see that nothing follows it.
use Rattle.no_std_io2.proofs.Words.{append-nil, returned_err}
use Rattle.base64_stream.specs.Encoder.{unfinished}
use Rattle.base64_stream.proofs.encoder.EncoderWriter.put_last.Goals as goal

pub returns-in_err-put_text-clause-puts : goal.returns-in_err-put_text-clause-puts
returns-in_err-put_text-clause-puts g c =
    rw (returned_err c.from_residual.ensures) (rw (append-nil (unfinished c.args.self.now)) at c.in_err-put_text.ensures.puts)

pub returns-clause-puts : goal.returns-clause-puts
returns-clause-puts g c = rw (append-nil (unfinished c.args.self.now)) at c.in_ok-put_text.ensures.puts
