-- The search does not find that a new decoder decodes all that the reader below tells (`decodes_encoding`).
use Rattle.no_std_io2.proofs.{Words.{Some, false, ap, refl, events_of, ◌∙◌}, TakesLemmas.{reader}}
use Rattle.base64_stream.proofs.{DecodingLemmas.{decodes_encoding}, DecoderLemmas.{starts_decoding}}
use Rattle.base64.specs.GeneralPurpose.{encode_of}
use Rattle.base64_stream.specs.declared.decoder.DecoderReader.{DecoderReader}
use Rattle.base64_stream.proofs.decoder.DecoderReader.new.Goals as goal

pub returns-clause-decodes : goal.returns-clause-decodes
returns-clause-decodes g c = λ x consistent all told.
    let engine = c.args.engine in
    let new : DecoderReader g.row.R.Denot =
    record { engine = engine; inner = c.args.inner; text = c.new.result; waiting = c.new-2.result; closed = false } in
    starts_decoding (reader g.R.Stored g.R.Read) new engine (events_of (encode_of engine x)) refl refl c.new.ensures c.new-2.ensures told
    ∙ ap Some (decodes_encoding engine consistent x all)
