-- The prover does not split the bytes that the whole tower holds into those of its levels.
use Rattle.std.proofs.{Common.{arith}, lemmas.Grind.{common_steps}}
use Rattle.no_std_io2.proofs.Words.{writer_inner, writer_buffer, line_inner, line_buffer}
use Rattle.promises.proofs.CallsEnd.{three}
use Rattle.promises.proofs.delivery.empties_a_tower.Goals as goal

pub returns : goal.returns
returns g c = grind (arith, common_steps, line_buffer, line_inner, three, writer_buffer, writer_inner)
