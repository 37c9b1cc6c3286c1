-- The prover does not count the reads of a loop.
use Rattle.no_std_io2.proofs.{Words.{arith}, TakesLemmas.{reader, made_may}}
use Rattle.promises.proofs.LoopCounts.{exact_counts}
use Rattle.promises.proofs.counts.counts_a_read_exact.Goals as goal

pub returns : goal.returns
returns g c =
    let calls = c.read_exact.ensures.law.calls in
    let counted = exact_counts (reader g.R.Stored g.R.Read) calls.calls _ c.read_exact.result _ _ calls.are
    (made_may _ calls.calls _ _ calls.made) in
    record {
      counts = record { least = omega (arith, counted.least, c.read_exact.auto.buf); most = counted.most };
      writes = counted.writes;
    }
