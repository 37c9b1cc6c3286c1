-- The search does not find that all was read which the decoder had left.
use Rattle.std.proofs.Common.{ap, ◌∙◌, option_and_then}
use Rattle.base64.specs.{Engines.{standard}, GeneralPurpose.{decoded_of}}
use Rattle.no_std_io2.{proofs.TakesLemmas.{reader}, specs.Takes.{tells}}
use Rattle.system_streams.specs.ToStd.{bytes_to_come}
use Rattle.tests.proofs.TextLemmas.{read_decoded}
use Rattle.tests.proofs.texts.read_encoded.Goals as goal

pub returns : goal.returns
unfolding decoded_of
returns g c =
    let R = reader g.R.Stored g.R.Read in
    read_decoded standard _ (bytes_to_come (tells R c.args.input)) _ _
    (c.new-2.ensures.remaining ∙ ap (λ r. option_and_then (decoded_of standard) (bytes_to_come (tells R r))) c.new.ensures)
    c.in_ok-read_to_end.ensures.bytes c.new-bytes.ensures.items
