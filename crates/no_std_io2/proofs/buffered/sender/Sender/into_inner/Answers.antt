-- The inner writer, once all was sent; or the fault that stopped the sending, and the writer.
use Rattle.no_std_io2.proofs.BufWriterCalls.{unwraps_ok, unwraps_err}
use Rattle.no_std_io2.proofs.buffered.sender.Sender.into_inner.Goals as goal

pub returns-in-Ok : goal.returns-in-Ok
returns-in-Ok g c = unwraps_ok c.in-Ok.ensures.calls

pub returns-in-Err : goal.returns-in-Err
returns-in-Err g c = unwraps_err c.new.result (rw (c.new.ensures.cause, c.new.ensures.writer) c.in-Err.ensures.calls)
