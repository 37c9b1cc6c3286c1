-- What is gone from the buffer was accepted by the inner writer.
use Rattle.no_std_io2.proofs.Words.{CallOf, ◌≡◌, ◌+◌, length, sender_buffer}
use Rattle.std.proofs.Common.{codes}
use Rattle.no_std_io2_base.proofs.CallsLemmas.{CallsSoFar}
use Rattle.no_std_io2.proofs.buffered.sender.Sender.send_held.Given as goal

abbrev pub invariant-sends : goal.invariant-sends
invariant-sends g l =
    record {
      made : CallsSoFar (CallOf g.W.Write) (codes "failed to write the buffered data") l.initial.self.inner
          (sender_buffer l.initial.self) (sender_buffer l.self) l.self.inner;
      unmoved : l.self.buffer.bytes ≡ l.initial.self.buffer.bytes;
    }

abbrev pub decreases-sends : goal.decreases-sends
decreases-sends g l = (g.W.Write.told l.self.inner).turns + length (sender_buffer l.self)
