-- The law and the clause, by lemmas about the inner calls: the search does not apply these to a whole step.
use Rattle.no_std_io2.proofs.Words.{writer_inner, writer_buffer}
use Rattle.no_std_io2_base.proofs.CallsLemmas.{own_law}
use Rattle.no_std_io2.proofs.{BufWriterLemmas.{effect_of}, BufWriterCalls.{write_all_does, buffers_all_of}}
use Rattle.no_std_io2.proofs.buffered.buf_writer.BufWriterWrite.write_all.Goals as goal

pub returns : goal.returns
returns g c =
    let I = g.W.Write in
    let calls = c.write_all.ensures in
    let done = effect_of (write_all_does I g.row.S c.args.buf.now) calls in
    record {
      law = own_law (calls, done.told.0, done.told.1, λ t. (done.counts t).0);
      buffer = buffers_all_of I writer_inner writer_buffer g.row.S calls;
    }
