-- What the call did to the inner stream, it did to this one.
use Rattle.no_std_io2.proofs.CallsLemmas.{by_map}
use Rattle.rows_play.proofs.noted.NotedSeek.stream_len.Goals as goal

pub returns : goal.returns
returns g c =
    let len = c.stream_len.ensures.law in
    let put = λ (v : g.row.T.Denot). record c.args.self.now { inner = v } in
    record {
      law = record {
        store = len.store;
        sound = len.sound;
        calls = by_map put (λ a b call made. made) len.calls;
      };
    }
