-- What the engine wrote is the whole encoding; the search does not split into the cases of its length.
use Rattle.base64.{specs.GeneralPurpose.{encode_of}, proofs.EngineFacts.{encoded_prefix}}
use Rattle.base64_stream.proofs.encoder.encode_bytes.Goals as goal

pub returns-clause-text : goal.returns-clause-text
returns-clause-text c =
    encoded_prefix (encode_of c.args.engine.now c.args.bytes.now) _ c.encode_slice.new.output _ c.in-Ok.len c.encode_slice.result _
    c.encode_slice.auto.output c.encode_slice.ensures.fits c.encode_slice.ensures.too_small c.in-Ok.is c.in-Ok.ensures.written
