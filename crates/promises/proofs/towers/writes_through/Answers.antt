-- The prover does not take the law of the reference apart into that of the writer.
use Rattle.no_std_io2.proofs.Forwards.{behind_did}
use Rattle.promises.proofs.towers.writes_through.Goals as goal

pub returns : goal.returns
returns g c =
    let law = c.write.ensures.law in
    record { bound = law.bound; moves = law.moves; all = law.all; call = behind_did _ _ _ law.call }
