-- The prover does not go over the calls of a loop.
use Rattle.no_std_io2.proofs.{CallsAdd.{to_end_adds}, TakesLemmas.{reader}}
use Rattle.promises.proofs.AtLimit.{chain_each}
use Rattle.promises.proofs.adaptors.drains_in_turn.Goals as goal

pub returns : goal.returns
returns g c =
    to_end_adds (chain_each (reader g.T.Stored g.T.Read) (reader g.U.Stored g.U.Read)) _ _ _ c.read_to_end.ensures.law.calls
