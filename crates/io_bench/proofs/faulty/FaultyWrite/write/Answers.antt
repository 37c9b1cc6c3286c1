-- The prover does not find what an act does to a write.
use Rattle.no_std_io2.proofs.Words.{common_steps, arith}
use Rattle.io_bench.proofs.DeviceLemmas.{faulty_steady, moves_past, moves_spent, moves_zero, moves_through, taken_of_front, behind}
use Rattle.io_bench.proofs.DeviceLemmas.{behind_take}
use Rattle.io_bench.proofs.faulty.FaultyWrite.write.Goals as goal

pub returns-in-None : goal.returns-in-None
returns-in-None g c = grind (arith, common_steps, moves_past, behind, faulty_steady)

pub returns-in-Some-Fail : goal.returns-in-Some-Fail
returns-in-Some-Fail g c = grind (arith, common_steps, moves_spent, behind)

pub returns-in-Some-Zero : goal.returns-in-Some-Zero
returns-in-Some-Zero g c = grind (arith, common_steps, moves_zero, behind)

pub returns-in-Some-Take : goal.returns-in-Some-Take
returns-in-Some-Take g c = grind (arith, common_steps, moves_through, taken_of_front, behind, behind_take)
