-- The prover does not count the reads of a whole copy.
use Rattle.promises.proofs.LoopCounts.{copy_cost}
use Rattle.promises.proofs.counts.counts_a_copy.Goals as goal

pub returns : goal.returns
returns g c = λ cost meter some fills. copy_cost _ cost meter g.row.S some c.copy.result fills c.copy.ensures
