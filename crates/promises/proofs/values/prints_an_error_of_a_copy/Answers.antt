-- The prover does not find what a printed text accepted, which takes cases of its calls.
use Rattle.no_std_io2.proofs.TextLemmas.{MovesFront-text}
use Rattle.promises.proofs.values.prints_an_error_of_a_copy.Goals as goal

pub returns : goal.returns
returns g c = MovesFront-text c.write.ensures.law.moves
