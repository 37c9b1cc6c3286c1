-- Bytes wait already; the search does not find that nothing is read then.
use Rattle.no_std_io2.proofs.TakesLemmas.{reader}
use Rattle.base64_stream.proofs.DecoderLemmas.{fill_ready}
use Rattle.base64_stream.proofs.decoder.DecoderReader.fill.Goals as goal

pub returns-clause-fills : goal.returns-clause-fills
returns-clause-fills g c = fill_ready (reader g.R.Stored g.R.Read) c.args.self.now (c.is_empty.ensures.no c.if-is_empty.false)
