-- The prover does not find which call is the last, which takes an induction over the calls.
use Rattle.no_std_io2.proofs.CallsLemmas.{by_are}
use Rattle.promises.proofs.CallsEnd.{write_ends, write_only}
use Rattle.promises.proofs.calls.stops_at_a_fault_of_a_write.Goals as goal

pub returns-clause-calls : goal.returns-clause-calls
returns-clause-calls g c = by_are c.write.ensures.buffer.calls (λ C made. (write_only made, write_ends made))
