-- A lemma turns the law of `write!` into `MovesFront`; the search does not try it.
use Rattle.no_std_io2.proofs.TextLemmas.{MovesFront-text}
use Rattle.examples.proofs.readings.write_reading.Goals as goal

pub returns : goal.returns
returns g c = record { line = MovesFront-text c.write.ensures.law.moves }
