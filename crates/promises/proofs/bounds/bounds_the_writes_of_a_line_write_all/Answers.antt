-- The prover does not count the inner calls.
use Rattle.no_std_io2.proofs.{Words.{line_inner, line_buffer, LineWriteAllCalls}, LineWriterCalls.{line_write_all_does}}
use Rattle.promises.proofs.CallsEnd.{few_cost}
use Rattle.promises.proofs.bounds.bounds_the_writes_of_a_line_write_all.Goals as goal

pub returns-clause-bound : goal.returns-clause-bound
returns-clause-bound g c = λ cost meter takes.
    let t = c.write_all.ensures.calls in
    few_cost g.W.Write cost meter (line_inner {S = g.row.S}) line_buffer
    (LineWriteAllCalls g.row.S c.args.x.now) c.args.w.now c.write_all.new.self
    t ((line_write_all_does g.W.Write g.row.S t).keeps takes).2
