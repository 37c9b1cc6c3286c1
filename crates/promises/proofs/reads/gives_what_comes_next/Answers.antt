-- The prover does not find what is left of the told events.
use Rattle.std.proofs.{Common.{arith}, lemmas.Grind.{common_steps}}
use Rattle.no_std_io2.proofs.TakesLemmas.{left_of}
use Rattle.promises.proofs.HeldPieces.{none_left}
use Rattle.promises.proofs.reads.gives_what_comes_next.Goals as goal

pub returns : goal.returns
returns g c = grind (arith, common_steps, left_of, none_left)
