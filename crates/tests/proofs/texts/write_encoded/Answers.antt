-- The search does not find that the writer has kept what the encoder was to have written.
use Rattle.std.proofs.{Common.{◌++◌, [], ap, ap₂, ◌∙◌, append-nil}, lemmas.Option.{same_Some}}
use Rattle.base64.specs.{Engines.{standard}, GeneralPurpose.{encode_of}}
use Rattle.system_streams.specs.ToStd.{accepted_so_far}
use Rattle.tests.proofs.texts.write_encoded.Goals as goal

pub returns : goal.returns
returns g c =
    let x = c.args.bytes.now in
    let begun = same_Some _ _ (c.new-text.ensures (x ++ [])) in
    let took = c.in_ok-write_all.ensures.ok [] in
    let done = c.in_ok-finish.ensures in
    ap (λ w. accepted_so_far (g.W.Write.told w)) c.into_inner.ensures ∙ done ∙ took ∙ begun
    ∙ ap₂ (λ w t. accepted_so_far (g.W.Write.told w) ++ encode_of standard t) c.new.ensures (append-nil x)
