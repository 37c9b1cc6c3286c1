-- The prover does not go over the calls of a loop.
use Rattle.no_std_io2.proofs.{CallsAdd.{exact_adds}, TakesLemmas.{reader}}
use Rattle.promises.proofs.AtLimit.{chain_each}
use Rattle.promises.proofs.adaptors.reads_in_turn.Goals as goal

pub returns : goal.returns
returns g c =
    (exact_adds (chain_each (reader g.T.Stored g.T.Read) (reader g.U.Stored g.U.Read)) _ c.read_exact.result _ _
    c.read_exact.ensures.law.calls).2
