-- The buffer sent some text, and nothing else has changed; the search does not make the law of an encoder of that.
use Rattle.no_std_io2.proofs.Words.{refl}
use Rattle.base64_stream.proofs.EncoderLemmas.{law_flush}
use Rattle.base64_stream.proofs.encoder.EncoderWriterWrite.flush.Goals as goal

pub returns-clause-law : goal.returns-clause-law
returns-clause-law g c =
    law_flush g.W.Write c.args.self.now (record c.args.self.now { inner = c.flush.new.self }) c.flush.ensures.law.moves
    (refl, refl, refl, refl)
