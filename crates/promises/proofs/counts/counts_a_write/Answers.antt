-- The prover does not count inner calls.
use Rattle.no_std_io2.proofs.{Words.{writer_inner, writer_buffer}, BufWriterCalls.{write_does}}
use Rattle.io_bench.{proofs.RunCharges.{step_cost, tallied_writer, tally_meters}, specs.Tally.{tally_writes}}
use Rattle.promises.proofs.counts.counts_a_write.Goals as goal

pub returns : goal.returns
returns g c = λ takes.
    let x = c.args.x.now in
    let I = tallied_writer g.W.Write in (
      (c.write.ensures.law.all takes).1,
      (step_cost I tally_writes (tally_meters g.W.Write) (writer_inner {S = g.row.S}) writer_buffer (write_does I g.row.S x)
          c.args.w.now.value c.write.new.self.value c.write.ensures.law.call takes).2,
    )
