-- The prover does not find that nothing is left of an empty rest.
use Rattle.no_std_io2.proofs.Words.{common_steps, arith, length-append, nil_from_length}
use Rattle.no_std_io2.proofs.util.retries.flush_with_retries.Goals as goal

pub returns : goal.returns
returns g c = grind (arith, common_steps, nil_from_length, length-append)
