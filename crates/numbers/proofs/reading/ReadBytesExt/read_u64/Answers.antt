-- A number that is known to come is read, also where an error would be returned; the search does not use what is known of it.
use Rattle.no_std_io2.proofs.{Words.{[], Ok, sym, ap, ◌∙◌, true≢false}, KnownBytes.{exact_known}}
use Rattle.numbers.proofs.NumberLemmas.{spelled_back}
use Rattle.numbers.proofs.reading.ReadBytesExt.read_u64.Goals as goal

pub returns-in_err-read_exact-clause-back : goal.returns-in_err-read_exact-clause-back
returns-in_err-read_exact-clause-back g c = λ x rest fits told.
    let long = g.met.T.ByteOrder.length_bytes 8 x ∙ sym c.read_exact.auto.buf in
    let known = exact_known (g.T.ByteOrder.bytes_of 8 x) rest c.in_err-read_exact.ensures.law long told in
    absurd (true≢false (sym known.0))

pub returns-clause-back : goal.returns-clause-back
returns-clause-back g c = λ x rest fits told.
    let long = g.met.T.ByteOrder.length_bytes 8 x ∙ sym c.read_exact.auto.buf in
    let known = exact_known (g.T.ByteOrder.bytes_of 8 x) rest c.in_ok-read_exact.ensures.law long told in
    let is = spelled_back (g.T.ByteOrder.number_of 8) (g.T.ByteOrder.bytes_of 8 x) x (g.met.T.ByteOrder.reads_back 8 x [] fits) in
    (ap Ok (c.read_u64.ensures ∙ ap (g.T.ByteOrder.number_of 8) (c.plain_bytes.ensures.same ∙ known.1) ∙ is), known.2)
