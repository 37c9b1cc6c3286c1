-- The payloads that are gone were sent.
use Rattle.no_std_io2.proofs.Words.{map, length}
use Rattle.framing.specs.Sending.{SentSoFar}
use Rattle.framing.proofs.writer.FrameWriter.send_all.Given as goal

abbrev pub invariant-frames : goal.invariant-frames
invariant-frames g l = SentSoFar g.W.Write l.initial.self (map (λ p. p.now) l.initial.rest.now) l.self (map (λ p. p.now) l.rest.now)

abbrev pub decreases-frames : goal.decreases-frames
decreases-frames g l = length l.rest.now
