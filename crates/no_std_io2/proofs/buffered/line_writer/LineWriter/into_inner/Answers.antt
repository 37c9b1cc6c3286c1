-- What was not sent is the end of a list that had no newline, or one at the end.
use Rattle.no_std_io2.proofs.LineWriterStates.{writes_end, state_end}
use Rattle.no_std_io2.proofs.buffered.line_writer.LineWriter.into_inner.Goals as goal

pub invariant_of-sender : goal.invariant_of-sender
invariant_of-sender g c =
    record { line = rw c.into_parts-buffered.ensures.writer (state_end (writes_end c.in-Err.ensures.calls.are) c.args.self.sender.line) }
