-- The prover does not find that the archive was ended by this `finish`.
use Rattle.no_std_io2.proofs.Words.{refl, inl}
use Rattle.tar_make.proofs.end_all.Goals as goal

pub returns-in-Ok-finish : goal.returns-in-Ok-finish
returns-in-Ok-finish g c = rw (c.in-Ok.is) (inl (refl, c.in-Ok-finish.ensures))
