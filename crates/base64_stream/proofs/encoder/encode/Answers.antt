-- Without a group the other bytes are all; the search does not use that.
use Rattle.no_std_io2.proofs.{Words.{◌≡◌, [], ◌++◌, sym, ap, ◌∙◌}, TextLemmas.{is_empty}}
use Rattle.base64.specs.GeneralPurpose.{encode_of}
use Rattle.base64_stream.proofs.encoder.encode.Goals as goal

pub returns-then-is_empty-clause-text : goal.returns-then-is_empty-clause-text
returns-then-is_empty-clause-text c =
    let none : c.args.group.now ≡ [] = is_empty _ _ c.is_empty.ensures c.if-is_empty.true in
    c.encode_bytes.ensures.text ∙ ap (λ l. encode_of c.args.engine.now (l ++ c.args.more.now)) (sym none)
