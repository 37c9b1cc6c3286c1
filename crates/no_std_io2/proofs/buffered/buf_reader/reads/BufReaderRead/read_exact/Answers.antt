-- An exact read out of what is held.
use Rattle.no_std_io2.proofs.{Words.{refl, arith}, BufReaderThrough.{exact_held}, BufferedReads.{same_buffer}}
use Rattle.no_std_io2.proofs.buffered.buf_reader.reads.BufReaderRead.read_exact.Goals as goal

pub returns : goal.returns
returns g c =
    let gave = c.give_whole.ensures in
    let both = exact_held (omega arith) refl gave.gave gave.held gave.behind (λ none. same_buffer c.args.self.now _ _ _ (gave.none none)) in
    record { law = both.0; leaves = both.1 }
