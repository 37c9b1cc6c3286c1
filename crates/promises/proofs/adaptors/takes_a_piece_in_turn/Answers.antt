-- The prover does not go over the calls of a loop.
use Rattle.no_std_io2.proofs.{CallsAdd.{piece_adds}, TakesLemmas.{reader}}
use Rattle.promises.proofs.AtLimit.{chain_each}
use Rattle.promises.proofs.adaptors.takes_a_piece_in_turn.Goals as goal

pub returns : goal.returns
returns g c =
    let each = chain_each (reader g.T.Stored g.T.Read) (reader g.U.Stored g.U.Read) in
    piece_adds each _ _ c.read_until.result _ _ c.read_until.ensures.law.calls
