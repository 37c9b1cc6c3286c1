-- The prover does not count the inner calls.
use Rattle.no_std_io2.proofs.{Words.{line_inner, line_buffer, LineWriteCalls}, LineWriterCalls.{line_write_does}}
use Rattle.promises.proofs.CallsEnd.{few_cost}
use Rattle.promises.proofs.bounds.bounds_the_writes_of_a_line_write.Goals as goal

pub returns-clause-bound : goal.returns-clause-bound
returns-clause-bound g c = λ cost meter takes.
    let old = c.args.w.now.value in
    let new = c.write.new.self.value in
    let t = c.write.ensures.law.call in
    few_cost g.W.Write cost meter (line_inner {S = g.row.S}) line_buffer (LineWriteCalls g.row.S c.args.x.now) old new t
    ((line_write_does g.W.Write g.row.S t).keeps takes).2

pub returns-clause-all : goal.returns-clause-all
returns-clause-all g c = λ takes.
    let keeps = (line_write_does g.W.Write g.row.S c.write.ensures.law.call).keeps takes in
    (keeps.0, keeps.1)
