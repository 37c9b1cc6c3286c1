-- By the calls that it made.
use Rattle.no_std_io2.proofs.TakesLemmas.{reader}
use Rattle.promises.proofs.HeldPieces.{line_held}
use Rattle.promises.proofs.reads.takes_a_held_line.Goals as goal

pub returns : goal.returns
returns g c = λ line rest is ends. line_held (reader g.R.Stored g.R.Read) c.args.r.now line rest is ends c.read_line.result
    c.read_line.ensures.law
