-- The search does not make the law of a decoder of what was filled and given.
use Rattle.no_std_io2.proofs.{Words.{length, ap, refl, arith, returned_err}, TakesLemmas.{reader}, TextLemmas.{is_empty}}
use Rattle.base64_stream.proofs.DecoderLemmas.{gave_error, gave_nothing, gave_waiting}
use Rattle.base64_stream.proofs.decoder.DecoderReaderRead.read.Goals as goal

pub returns-then-is_empty-clause-law : goal.returns-then-is_empty-clause-law
returns-then-is_empty-clause-law g c =
    gave_nothing (reader g.R.Stored g.R.Read) c.args.self.now _ c.args.buf.now
    (ap length (is_empty _ _ c.is_empty.ensures c.if-is_empty.true))

pub returns-in_err-fill-clause-law : goal.returns-in_err-fill-clause-law
returns-in_err-fill-clause-law g c =
    rw (returned_err c.from_residual.ensures) (gave_error (reader g.R.Stored g.R.Read) _ _ c.in_err-fill.ensures.fills)

pub returns-clause-law : goal.returns-clause-law
returns-clause-law g c =
    gave_waiting (reader g.R.Stored g.R.Read) c.args.buf.now c.give.new.buf c.give.result c.in_ok-fill.ensures.fills
    (omega (arith, c.give.ensures.count, c.give.auto.buf)) c.give.ensures.bytes refl refl refl refl
