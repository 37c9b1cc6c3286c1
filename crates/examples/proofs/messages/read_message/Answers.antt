-- The bytes of the two reads are joined to one message, and a known message comes back; the search has no lemma for either.
use Rattle.no_std_io2.proofs.Words.{◌≡◌, ◌<◌, ◌^◌, ◌++◌, length, take, drop, Some, sym, ap, ◌∙◌, subst, arith, true≢false, take-append_seam}
use Rattle.no_std_io2.proofs.{Words.{tells}, TakesLemmas.{reader, Took-then, TakesBytes-fills}, KnownBytes.{exact_known}}
use Rattle.no_std_io2.specs.Reads.{TakesBytes}
use Rattle.std.specs.Int.{w16, to_be_bytes}
use Rattle.numbers.proofs.SpelledLemmas.{takes_big}
use Rattle.examples.{specs.Messages.{message}, proofs.RecordLemmas.{message_parts}}
use Rattle.examples.proofs.messages.read_message.Goals as goal

-- the length is known, so it is read
pub returns-in_err-len-clause-back : goal.returns-in_err-len-clause-back
returns-in_err-len-clause-back g c = λ payload rest small told.
    let few : length payload < 256 ^ 2 = omega (arith, small) in
    let known = c.in_err-len.ensures.back (length payload) _ few (told ∙ ap Some (message_parts payload rest)) in
    let no : ⊥ = cc known.0 in
    absurd no

-- and so is the payload
pub returns-in_err-read_exact-clause-back : goal.returns-in_err-read_exact-clause-back
returns-in_err-read_exact-clause-back g c = λ payload rest small told.
    let few : length payload < 256 ^ 2 = omega (arith, small) in
    let first = c.in_ok-len.ensures.back (length payload) _ few (told ∙ ap Some (message_parts payload rest)) in
    let len : c.in_ok-len.len ≡ length payload = cc first.0 in
    let room = c.read_exact.auto.buf ∙ c.deref_mut.ensures.len ∙ c.in_ok-payload.ensures.len ∙ c.from.ensures ∙ len in
    let known = exact_known payload rest c.in_err-read_exact.ensures.law (sym room) first.1 in
    absurd (true≢false (sym known.0))

pub returns-clause-takes : goal.returns-clause-takes
returns-clause-takes g c =
    let buf = c.read_exact.new.buf in
    let room = c.read_exact.auto.buf ∙ c.deref_mut.ensures.len in
    let items = ap (λ m. take m (buf ++ drop (length buf) c.in_ok-payload.payload.items)) (sym room) ∙ take-append_seam buf _ in
    let len = room ∙ c.in_ok-payload.ensures.len ∙ c.from.ensures in
    let whole = ap (λ n. to_be_bytes w16 n ++ buf) (sym len) ∙ ap message (sym items) in
    let R = reader g.R.Stored g.R.Read in
    subst (λ l. TakesBytes (tells R c.args.r.now) l (tells R c.read_exact.new.self)) whole
    (Took-then (takes_big {n = 2} c.in_ok-len.ensures.reads) (TakesBytes-fills c.in_ok-read_exact.ensures.law))

pub returns-clause-back : goal.returns-clause-back
returns-clause-back g c = λ payload rest small told.
    let few : length payload < 256 ^ 2 = omega (arith, small) in
    let first = c.in_ok-len.ensures.back (length payload) _ few (told ∙ ap Some (message_parts payload rest)) in
    let same : c.in_ok-len.len ≡ length payload = cc first.0 in
    let buf = c.read_exact.new.buf in
    let room = c.read_exact.auto.buf ∙ c.deref_mut.ensures.len in
    let items = ap (λ m. take m (buf ++ drop (length buf) c.in_ok-payload.payload.items)) (sym room) ∙ take-append_seam buf _ in
    let long = room ∙ c.in_ok-payload.ensures.len ∙ c.from.ensures ∙ same in
    let known = exact_known payload rest c.in_ok-read_exact.ensures.law (sym long) first.1 in
    ((items ∙ known.1, known.2), tt)
