-- The prover does not count inner calls.
use Rattle.no_std_io2.proofs.{Words.{writer_inner, writer_buffer}, BufWriterCalls.{flush_does}}
use Rattle.io_bench.proofs.RunCharges.{step_cost}
use Rattle.promises.proofs.counts.counts_a_flush.Goals as goal

pub returns : goal.returns
returns g c = λ cost meter takes.
    (step_cost g.W.Write cost meter (writer_inner {S = g.row.S}) writer_buffer (flush_does g.W.Write) c.args.w.now c.flush.new.self
    c.flush.ensures.law.call takes).2
