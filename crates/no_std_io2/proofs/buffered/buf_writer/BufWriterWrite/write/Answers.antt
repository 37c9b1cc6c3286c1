-- The law and the clause, by lemmas about the inner calls: the search does not apply these to a whole step.
use Rattle.no_std_io2.proofs.Words.{writer_inner, writer_buffer}
use Rattle.no_std_io2.proofs.{BufWriterLemmas.{effect_of}, BufWriterCalls.{write_does, write_bound, write_takes, buffers_of}}
use Rattle.no_std_io2.proofs.buffered.buf_writer.BufWriterWrite.write.Goals as goal

pub returns : goal.returns
returns g c =
    let I = g.W.Write in
    let calls = c.write.ensures in
    let done = effect_of (write_does I g.row.S c.args.buf.now) calls in
    record {
      law = record {
        bound = write_bound I g.row.S calls;
        moves = done.told;
        all = λ t. ((done.counts t).0, write_takes I g.row.S calls t);
        call = calls;
      };
      buffer = buffers_of I writer_inner writer_buffer g.row.S calls;
    }
