-- The text was put, or not; the search does not use the clause of the call.
use Rattle.no_std_io2.proofs.Words.{returned_err}
use Rattle.base64_stream.proofs.encoder.EncoderWriter.put.Goals as goal

pub returns-in_err-put_text-clause-puts : goal.returns-in_err-put_text-clause-puts
returns-in_err-put_text-clause-puts g c =
    rw (returned_err c.from_residual.ensures) c.in_err-put_text.ensures.puts

pub returns-clause-puts : goal.returns-clause-puts
returns-clause-puts g c = c.in_ok-put_text.ensures.puts
