-- The prover does not find which calls of the writer a call of the run made.
use Rattle.no_std_io2.proofs.{Words.{Ok, Err, refl, Wrote, Flushed}, CallsLemmas.{by_call}}
use Rattle.io_bench.proofs.runs.make_call.Goals as goal

pub returns-in-Ok : goal.returns-in-Ok
returns-in-Ok g c = rw c.in-Write.is (by_call (Wrote c.in-Write.x.now (Ok c.in-Ok.n)) c.in-Ok.ensures.law refl)

pub returns-in-Err : goal.returns-in-Err
returns-in-Err g c = rw c.in-Write.is (by_call (Wrote c.in-Write.x.now (Err c.in-Err.e)) c.in-Err.ensures.law refl)

pub returns-in-Ok-flush : goal.returns-in-Ok-flush
returns-in-Ok-flush g c = rw c.in-Flush.is (by_call (Flushed (Ok tt)) c.in-Ok-flush.ensures.law refl)

pub returns-in-Err-flush : goal.returns-in-Err-flush
returns-in-Err-flush g c = rw c.in-Flush.is (by_call (Flushed (Err c.in-Err-flush.e)) c.in-Err-flush.ensures.law refl)
