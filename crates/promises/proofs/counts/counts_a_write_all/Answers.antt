-- The prover does not count inner calls, nor find that S > 0 leaves no call for an empty text.
use Rattle.no_std_io2.proofs.{Words.{ap, ◌∙◌, ◌+◌, writer_inner, writer_buffer}, BufWriterCalls.{write_all_does}}
use Rattle.io_bench.proofs.RunCharges.{step_cost, writing_all-is}
use Rattle.promises.proofs.counts.counts_a_write_all.Goals as goal

pub returns : goal.returns
returns g c = λ some cost meter takes.
    let x = c.args.x.now in
    (step_cost g.W.Write cost meter (writer_inner {S = g.row.S}) writer_buffer (write_all_does g.W.Write g.row.S x)
    c.args.w.now c.write_all.new.self c.write_all.ensures.buffer.calls takes).2
    ∙ ap (λ n. cost (writer_inner c.args.w.now) + n) (writing_all-is g.row.S x (writer_buffer c.args.w.now) some)
