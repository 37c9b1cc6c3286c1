-- The vector has what the decoder tells, which is the decoding of the text; the search does not find that.
use Rattle.no_std_io2.proofs.Words.{[], false, Some, ◌++◌, sym, ap, subst, refl, ◌∙◌, arith, event_bytes, events_of, returned_err}
use Rattle.no_std_io2.proofs.{InMemoryReads.{slice_reader}, KnownBytes.{to_end_known}}
use Rattle.base64.specs.GeneralPurpose.{IsStrict, encode_of}
use Rattle.base64_stream.specs.{Decoder.{decoder_engine}, Decoding.{decoded_events}}
use Rattle.base64_stream.proofs.{DecoderLemmas.{starts_decoding}, ExactLemmas.{drained_error, drained_whole, only_encoding, text_refuses}}
use Rattle.base64_stream.proofs.decoder.decoded.Goals as goal

pub returns-in_err-read_to_end-clause-back : goal.returns-in_err-read_to_end-clause-back
returns-in_err-read_to_end-clause-back c = λ x all is.
    let told = c.new-r.ensures.decodes x refl all (ap (λ l. Some (events_of l)) is) in
    rw (returned_err c.from_residual.ensures) (tt, (to_end_known _ x c.in_err-read_to_end.ensures.law told).1)

pub returns-clause-back : goal.returns-clause-back
returns-clause-back c = λ x all is.
    let told = c.new-r.ensures.decodes x refl all (ap (λ l. Some (events_of l)) is) in
    let known = to_end_known _ x c.in_ok-read_to_end.ensures.law told in
    (known.0.1 ∙ ap (λ l. l ++ x) c.new-bytes.ensures.items, tt)

pub returns-clause-exact : goal.returns-clause-exact
returns-clause-exact c =
    let s = c.args.text.now in
    let new = c.new-r.ensures in
    let engine = decoder_engine c.new-r.result in
    let E = decoded_events engine false [] (events_of s) in
    let strict : IsStrict engine = subst IsStrict (sym new.engine) (refl, refl) in
    let told = starts_decoding slice_reader c.new-r.result engine (events_of s) refl new.closed new.text new.waiting
    (ap (λ r. Some (events_of r.now)) new.inner) in
    let whole = drained_whole E c.in_ok-read_to_end.ensures.law told in
    only_encoding engine strict s (λ i. let f = c.type_inv.text i in omega arith) whole.0
    ∙ ap (encode_of engine) (sym (whole.1 ∙ ap (λ l. l ++ event_bytes E) c.new-bytes.ensures.items))
    ∙ ap (λ e. encode_of e c.read_to_end.new.buf.items) new.engine

pub returns-in_err-read_to_end-clause-err : goal.returns-in_err-read_to_end-clause-err
returns-in_err-read_to_end-clause-err c =
    let s = c.args.text.now in
    let new = c.new-r.ensures in
    let engine = decoder_engine c.new-r.result in
    let told = starts_decoding slice_reader c.new-r.result engine (events_of s) refl new.closed new.text new.waiting
    (ap (λ r. Some (events_of r.now)) new.inner) in
    rw (returned_err c.from_residual.ensures) (drained_error _ c.in_err-read_to_end.ensures.law told (text_refuses engine false [] s))
