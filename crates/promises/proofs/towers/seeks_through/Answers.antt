-- The prover does not take the law of the reference apart into that of the stream.
use Rattle.no_std_io2.proofs.Forwards.{behind_did}
use Rattle.promises.proofs.towers.seeks_through.Goals as goal

pub returns : goal.returns
returns g c =
    let law = c.seek.ensures.law in
    record { store = law.store; sound = law.sound; position = law.position; call = behind_did _ _ _ law.call }
