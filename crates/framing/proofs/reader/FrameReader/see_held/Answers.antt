-- The prover does not find that the bytes of `fill_to` are seen (`fills_sees`).
use Rattle.framing.proofs.SeenLemmas.{fills_sees}
use Rattle.framing.proofs.reader.FrameReader.see_held.Goals as goal

pub returns-clause-sees : goal.returns-clause-sees
returns-clause-sees g c = fills_sees c.requires.fits c.fill_to.ensures.fills
