-- The bytes that are told are those among the events.
use Rattle.no_std_io2.proofs.Words.{Ok, Err, refl}
use Rattle.system_streams.proofs.KnownLemmas.{consumes_bytes}
use Rattle.system_streams.proofs.to_std.ToStdRead.read.Goals as goal

pub returns-in-Ok-clause-bytes : goal.returns-in-Ok-clause-bytes
returns-in-Ok-clause-bytes g c = consumes_bytes (Ok c.in-Ok.n) (Ok c.in-Ok.n) c.in-Ok.ensures.law refl

pub returns-in-Err-clause-bytes : goal.returns-in-Err-clause-bytes
returns-in-Err-clause-bytes g c = consumes_bytes (Err c.in-Err.e) (Err c.std_error.result) c.in-Err.ensures.law c.std_error.ensures
