-- The prover does not count inner calls.
use Rattle.no_std_io2.proofs.Words.{writer_inner, writer_buffer}
use Rattle.promises.proofs.CallsEnd.{unwrap_cost}
use Rattle.promises.proofs.counts.counts_an_into_inner.Goals as goal

pub returns : goal.returns
returns g c = unwrap_cost g.W.Write (writer_inner {S = g.row.S}) writer_buffer c.args.w c.into_inner.result c.into_inner.ensures.law.calls
