-- The vector has what the encoder was to have passed on, which is the encoding of what was written.
use Rattle.no_std_io2.proofs.{Words.{◌≡◌, ℕ, [], ◌++◌, Vec, sym, ap, subst, ◌∙◌, append-nil, WriterState, told_out}, CallsLemmas.{law_may}}
use Rattle.no_std_io2.proofs.CallsAdd.{all_adds}
use Rattle.std.proofs.Common.{Global}
use Rattle.base64.specs.GeneralPurpose.{encode_of}
use Rattle.base64_stream.{specs.Encoder.{Encodes64, encoder_engine, encoder_inner}, proofs.EncoderLemmas.{encodes64_join, starts}}
use Rattle.base64_stream.proofs.encoder.encoded.Goals as goal

pub returns-in-Ok : goal.returns-in-Ok
returns-in-Ok c =
    let told : Vec ℕ Global → WriterState = λ v. told_out v.items in
    let w0 = c.new-w.result in
    let w1 = c.write_all.new.self in
    let x = c.args.bytes.now in
    let made = c.in_ok-write_all.ensures.law.calls in
    let wrote = all_adds (encodes64_join told) (law_may _) made.calls _ _ w0 w1 made.made made.are in
    let (accepted, front, whole, adds) = wrote in
    let all : Encodes64 told w0 x w1 = subst (λ l. Encodes64 told w0 l w1) whole adds in
    let done = c.in_ok-finish.ensures.done in
    let empty : (encoder_inner w0).items ≡ [] = ap (λ v. v.items) c.new-w.ensures.inner ∙ c.new.ensures.items in
    let text = starts w0 (x ++ []) empty c.new-w.ensures.empty c.new-w.ensures.none in
    let handed = c.into_inner.ensures.law.empty done.2 in
    let same : c.in-Ok.v ≡ encoder_inner c.finish.new.self = let both = sym c.in-Ok.is ∙ handed in cc in
    ap (λ v. v.items) same ∙ done.0 ∙ all [] ∙ text
    ∙ ap (λ l. encode_of (encoder_engine w0) l) (append-nil x) ∙ ap (λ e. encode_of e x) c.new-w.ensures.engine
