-- By the calls that it made.
use Rattle.no_std_io2.proofs.TakesLemmas.{reader}
use Rattle.promises.proofs.HeldPieces.{until_held}
use Rattle.promises.proofs.reads.takes_a_held_piece.Goals as goal

pub returns : goal.returns
returns g c = λ piece rest is ends. until_held (reader g.R.Stored g.R.Read) c.args.r.now c.args.delim piece rest is ends
    c.read_until.result c.read_until.ensures.law
