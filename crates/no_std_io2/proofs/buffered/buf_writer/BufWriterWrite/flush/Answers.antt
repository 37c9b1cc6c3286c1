-- The law, by lemmas about the inner calls: the search does not apply these to a whole step.
use Rattle.no_std_io2.proofs.{BufWriterLemmas.{buffer_none, effect_of}, BufWriterCalls.{flush_empty, flush_does}}
use Rattle.no_std_io2.proofs.buffered.buf_writer.BufWriterWrite.flush.Goals as goal

pub returns : goal.returns
returns g c =
    let calls = c.flush.ensures in
    let done = effect_of (flush_does g.W.Write) calls in
    let empty = flush_empty g.W.Write calls in
    record {
      law = record { empty = empty; moves = done.told; all = λ t. (done.counts t).0; call = calls };
      unheld = buffer_none _ _ _ empty;
    }
