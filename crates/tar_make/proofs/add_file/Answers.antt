-- The prover does not find the archive between the header and the bytes.
use Rattle.no_std_io2.proofs.Words.{inl}
use Rattle.tar_make.proofs.add_file.Goals as goal

pub returns-in-Ok : goal.returns-in-Ok
returns-in-Ok g c = inl (_, c.in-Ok.ensures, c.add_body.ensures)
