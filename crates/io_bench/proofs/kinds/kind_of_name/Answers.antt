-- The prover does not look at each kind.
use Rattle.no_std_io2.proofs.Words.{arith, common_steps}
use Rattle.io_bench.proofs.kinds.kind_of_name.Goals as goal

pub returns-in_default-clause-none : goal.returns-in_default-clause-none
returns-in_default-clause-none c = λ kind. grind (arith, common_steps, c.in_default)
