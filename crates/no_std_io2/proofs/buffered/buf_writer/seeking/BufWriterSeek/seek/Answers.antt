-- Sending failed, with bytes still held, or nothing is held, and the inner writer was sought.
use Rattle.no_std_io2.proofs.Words.{arith, common_steps, err_from_is_err_and, sender_inner, writer_inner, writer_buffer}
use Rattle.no_std_io2.proofs.{BufWriterLemmas.{no_ok}, BufWriterCalls.{store_refused, store_sought, position_sought, sent_idle, sends_all}}
use Rattle.no_std_io2.{proofs.BufWriterCalls.{seek_failed}, specs.inner.BufferSeeks.{went}}
use Rattle.no_std_io2_base.proofs.CallsLemmas.{writes_whole}
use Rattle.no_std_io2.proofs.buffered.buf_writer.seeking.BufWriterSeek.seek.Goals as goal

pub returns-in_err-send : goal.returns-in_err-send
returns-in_err-send g c =
    grind (arith, common_steps, err_from_is_err_and, store_refused, writer_buffer, writer_inner, no_ok, sent_idle, seek_failed)

pub returns : goal.returns
returns g c =
    let inner = rw c.get_mut.ensures.value at c.seek.ensures.law in
    let sent = c.in_ok-send.ensures.calls in
    let none = writes_whole sent.are in
    let all = sends_all sent in
    let seeks = went (sender_inner c.send.new.self) all.1 all.0 inner none in
    record {
      law = record {
        store = store_sought _ (writer_buffer c.args.self.now) _ (g.W.Stored.store (writer_inner c.args.self.now)) _ none
            (λ empty. rw (c.get_mut.ensures.value, (sent_idle sent empty).0) at c.seek.ensures.law.store);
        sound = λ is. is;
        position = position_sought _ _ c.seek.result c.seek.ensures.law.position;
        call = seeks;
      };
      seeks = seeks;
    }
