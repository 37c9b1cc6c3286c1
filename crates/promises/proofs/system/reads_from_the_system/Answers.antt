-- The prover does not go over the calls of a loop.
use Rattle.promises.proofs.PatientReads.{fills}
use Rattle.promises.proofs.system.reads_from_the_system.Goals as goal

pub returns : goal.returns
returns g c = fills g.D.SystemRead c.read_exact.result c.read_exact.ensures.law.calls
