-- The prover does not find the calls that are made so far (`ops_go_on`).
use Rattle.no_std_io2.proofs.Words.{arith, common_steps}
use Rattle.tower_play.proofs.PlayLemmas.{ops_go_on}
use Rattle.tower_play.proofs.script.Calls.ops.Goals as goal

pub steps-preserved : goal.steps-preserved
steps-preserved c = grind (arith, common_steps, ops_go_on)
