-- The prover does not find the archive between the header and the content.
use Rattle.examples.proofs.ar.read_next.Goals as goal

pub returns : goal.returns
returns g c = (
  c.in-Some.header,
  c.next_header.new.self,
  rw c.in-Some.is at c.in_ok-header.ensures,
  rw c.new-content.ensures.items at c.in_ok-read_lent.ensures,
)
