-- The prover does not count the reads of a loop.
use Rattle.no_std_io2.proofs.TakesLemmas.{reader, made_may}
use Rattle.promises.proofs.LoopCounts.{drain_counts}
use Rattle.promises.proofs.counts.counts_a_read_to_end.Goals as goal

pub returns : goal.returns
returns g c =
    let calls = c.read_to_end.ensures.law.calls in
    let counted = drain_counts (reader g.R.Stored g.R.Read) calls.calls _ c.read_to_end.result _ _ calls.are
    (made_may _ calls.calls _ _ calls.made) in
    record { counts = counted.0; writes = counted.1.2.writes }
