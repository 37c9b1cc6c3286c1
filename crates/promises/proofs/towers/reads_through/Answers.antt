-- The prover does not take the law of the reference apart into that of the reader.
use Rattle.no_std_io2.proofs.Forwards.{behind_did}
use Rattle.promises.proofs.towers.reads_through.Goals as goal

pub returns : goal.returns
returns g c =
    let law = c.read.ensures.law in
    record { bound = law.bound; takes = law.takes; end = law.end; call = behind_did _ _ _ law.call }
