-- The prover does not find that the bytes of a `read_full` are seen (`rest_sees`).
use Rattle.no_std_io2.proofs.{Words.{Ok, Err, refl, arith, returned_err}, TakesLemmas.{reader}}
use Rattle.framing.proofs.SeenLemmas.{rest_sees}
use Rattle.framing.proofs.reader.FrameReader.see_payload.Goals as goal

pub returns-in_err-read-clause-sees : goal.returns-in_err-read-clause-sees
returns-in_err-read-clause-sees g c =
    let through = c.in_err-read.ensures.through in
    rw (returned_err c.from_residual.ensures)
    (rest_sees (reader g.R.Stored g.R.Read) c.args.self.now c.args.room.now _ _ _ c.args.len c.args.given
    c.read_full-read.new.filled c.requires.inside refl c.requires.fits (omega arith) c.read_full-read.new.buf
    c.read_full-read.auto.buf refl (Err _) _ through.1 through.2)

pub returns-clause-sees : goal.returns-clause-sees
returns-clause-sees g c =
    let through = c.in_ok-read.ensures.through in
    rest_sees (reader g.R.Stored g.R.Read) c.args.self.now c.args.room.now _ _ _ c.args.len c.args.given
    c.read_full-read.new.filled c.requires.inside refl c.requires.fits (omega arith) c.read_full-read.new.buf
    c.read_full-read.auto.buf refl (Ok _) _ through.1 through.2
