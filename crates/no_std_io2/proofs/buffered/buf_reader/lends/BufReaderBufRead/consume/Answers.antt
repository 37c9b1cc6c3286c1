-- What is taken is the front of the held bytes: the search does not split the list.
use Rattle.no_std_io2.proofs.{Words.{take, refl, sym, take-append-drop, ◌∙◌, ap, ◌++◌, reader_held}, BufferedReads.{takes_held, held-le}}
use Rattle.no_std_io2.proofs.buffered.buf_reader.lends.BufReaderBufRead.consume.Goals as goal

pub returns : goal.returns
returns g c =
    let r = c.args.self.now in
    let held = reader_held r in
    let n = c.args.amount in
    let is = c.consume.ensures in
    record {
      law = record {
        held = is.held;
        takes = takes_held g.row.S held _ (take n held) _
            (sym (take-append-drop n held) ∙ ap (λ l. take n held ++ l) (sym is.held)) (held-le r);
        call = (refl, (is.behind, is.held));
      };
    }
