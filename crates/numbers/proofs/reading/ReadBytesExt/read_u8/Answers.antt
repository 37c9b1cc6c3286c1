-- A byte that is known to come is read, also where an error would be returned; the search does not use what is known of it.
use Rattle.no_std_io2.proofs.{Words.{[], ◌∷◌, Ok, sym, ap, ◌∙◌, true≢false}, KnownBytes.{exact_known}}
use Rattle.numbers.specs.Numbers.{first_byte}
use Rattle.numbers.proofs.reading.ReadBytesExt.read_u8.Goals as goal

pub returns-in_err-read_exact-clause-back : goal.returns-in_err-read_exact-clause-back
returns-in_err-read_exact-clause-back g c = λ x rest fits told.
    let known = exact_known (x ∷ []) rest c.in_err-read_exact.ensures.law (sym c.read_exact.auto.buf) told in
    absurd (true≢false (sym known.0))

pub returns-clause-back : goal.returns-clause-back
returns-clause-back g c = λ x rest fits told.
    let known = exact_known (x ∷ []) rest c.in_ok-read_exact.ensures.law (sym c.read_exact.auto.buf) told in
    (ap (λ bytes. Ok (first_byte bytes)) (c.plain_bytes-bytes.ensures.same ∙ known.1), known.2)
