-- The bytes of the length and those of the payload are joined to one message; a known message comes back, and a cut one is told.
use Rattle.no_std_io2.proofs.Words.{◌≡◌, ◌<◌, ◌^◌, ◌++◌, length, Some, Ok, Err, sym, ap, ◌∙◌, subst, arith, inr, tells, returned_err}
use Rattle.no_std_io2.proofs.{TakesLemmas.{reader, Took-then, events_of-append}, KnownBytes.{at_most_known, at_most_short, at_most_takes}}
use Rattle.no_std_io2.specs.Reads.{TakesBytes}
use Rattle.std.specs.Int.{w32, to_be_bytes}
use Rattle.numbers.proofs.SpelledLemmas.{takes_big}
use Rattle.examples.{specs.Messages.{long_message}, proofs.RecordLemmas.{long_parts}}
use Rattle.examples.proofs.messages.read_long_message.Goals as goal

-- the length is known, so it is read
pub returns-in_err-len-clause-back : goal.returns-in_err-len-clause-back
returns-in_err-len-clause-back g c = λ payload rest small told.
    let few : length payload < 256 ^ 4 = omega (arith, small) in
    let known = c.in_err-len.ensures.back (length payload) _ few (told ∙ ap Some (long_parts payload rest)) in
    let no : ⊥ = cc known.0 in
    absurd no

pub returns-in_err-len-clause-cut : goal.returns-in_err-len-clause-cut
returns-in_err-len-clause-cut g c = λ len given small short told.
    let few : len < 256 ^ 4 = omega (arith, small) in
    let known = c.in_err-len.ensures.back len _ few (told ∙ ap Some (events_of-append (to_be_bytes w32 len) given)) in
    let no : ⊥ = cc known.0 in
    absurd no

-- the payload comes without a fault, so there was no memory
pub returns-in_err-read-clause-back : goal.returns-in_err-read-clause-back
returns-in_err-read-clause-back g c = λ payload rest small told.
    let few : length payload < 256 ^ 4 = omega (arith, small) in
    let first = c.in_ok-len.ensures.back (length payload) _ few (told ∙ ap Some (long_parts payload rest)) in
    let len : c.in_ok-len.len ≡ length payload = cc first.0 in
    let known = at_most_known (Err c.in_err-read.field-0.0) payload rest c.in_err-read.ensures.law (sym (c.from.ensures ∙ len)) first.1 in
    rw (returned_err c.from_residual-in_err-read.ensures) (tt, known.1)

pub returns-in_err-read-clause-cut : goal.returns-in_err-read-clause-cut
returns-in_err-read-clause-cut g c = λ len given small short told.
    let few : len < 256 ^ 4 = omega (arith, small) in
    let first = c.in_ok-len.ensures.back len _ few (told ∙ ap Some (events_of-append (to_be_bytes w32 len) given)) in
    let same : c.in_ok-len.len ≡ len = cc first.0 in
    let more : length given < c.from.result = omega (arith, short, c.from.ensures ∙ same) in
    let known = at_most_short (Err c.in_err-read.field-0.0) given c.in_err-read.ensures.law more first.1 in
    rw (returned_err c.from_residual-in_err-read.ensures) (inr known.1)

-- so many bytes come, so they are not too few
pub returns-then-read-from-clause-back : goal.returns-then-read-from-clause-back
returns-then-read-from-clause-back g c = λ payload rest small told.
    let few : length payload < 256 ^ 4 = omega (arith, small) in
    let first = c.in_ok-len.ensures.back (length payload) _ few (told ∙ ap Some (long_parts payload rest)) in
    let len : c.in_ok-len.len ≡ length payload = cc first.0 in
    let known = at_most_known (Ok c.in_ok-read.read) payload rest c.in_ok-read.ensures.law (sym (c.from.ensures ∙ len)) first.1 in
    absurd (omega (arith, known.0.0, c.from-2.ensures, len, c.if-read-from.true))

pub returns-clause-takes : goal.returns-clause-takes
returns-clause-takes g c =
    let (x, took, items, count, most) = at_most_takes c.in_ok-read.ensures.law in
    let same = items ∙ ap (λ l. l ++ x) c.new-payload.ensures.items in
    let len : c.in_ok-len.len ≡ length x = omega (arith, count, most, c.from.ensures, c.from-2.ensures, c.if-read-from.false) in
    let whole = ap (λ n. to_be_bytes w32 n ++ x) len ∙ ap long_message (sym same) in
    let R = reader g.R.Stored g.R.Read in
    subst (λ l. TakesBytes (tells R c.args.r.now) l (tells R c.read_at_most.new.reader)) whole
    (Took-then (takes_big {n = 4} c.in_ok-len.ensures.reads) took)

pub returns-clause-back : goal.returns-clause-back
returns-clause-back g c = λ payload rest small told.
    let few : length payload < 256 ^ 4 = omega (arith, small) in
    let first = c.in_ok-len.ensures.back (length payload) _ few (told ∙ ap Some (long_parts payload rest)) in
    let len : c.in_ok-len.len ≡ length payload = cc first.0 in
    let known = at_most_known (Ok c.in_ok-read.read) payload rest c.in_ok-read.ensures.law (sym (c.from.ensures ∙ len)) first.1 in
    ((known.0.1 ∙ ap (λ l. l ++ payload) c.new-payload.ensures.items, known.0.2), tt)

-- a cut message is too short
pub returns-clause-cut : goal.returns-clause-cut
returns-clause-cut g c = λ len given small short told.
    let few : len < 256 ^ 4 = omega (arith, small) in
    let first = c.in_ok-len.ensures.back len _ few (told ∙ ap Some (events_of-append (to_be_bytes w32 len) given)) in
    let same : c.in_ok-len.len ≡ len = cc first.0 in
    let more : length given < c.from.result = omega (arith, short, c.from.ensures ∙ same) in
    let known = at_most_short (Ok c.in_ok-read.read) given c.in_ok-read.ensures.law more first.1 in
    absurd (omega (arith, known.0.0, short, c.from-2.ensures, same, c.if-read-from.false))
