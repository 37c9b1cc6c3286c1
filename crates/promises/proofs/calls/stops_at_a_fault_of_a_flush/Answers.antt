-- The prover does not find which call is the last, which takes an induction over the calls.
use Rattle.std.proofs.{Common.{arith}, lemmas.Grind.{common_steps}}
use Rattle.no_std_io2.proofs.{Words.{writer_buffer, writer_inner}, CallsLemmas.{by_are}}
use Rattle.promises.proofs.CallsEnd.{flush_ends, flush_flushed, second}
use Rattle.promises.proofs.calls.stops_at_a_fault_of_a_flush.Goals as goal

pub returns-clause-calls : goal.returns-clause-calls
returns-clause-calls g c = by_are c.flush.ensures.law.call (λ C made. (flush_ends made, flush_flushed made))

pub returns-clause-empty : goal.returns-clause-empty
returns-clause-empty g c = grind (arith, common_steps, second, writer_buffer, writer_inner)
