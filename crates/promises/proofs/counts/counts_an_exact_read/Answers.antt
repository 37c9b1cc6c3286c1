-- The prover does not count the reads of a loop.
use Rattle.promises.proofs.ExactCounts.{exact_counted}
use Rattle.promises.proofs.counts.counts_an_exact_read.Goals as goal

pub returns-clause-reads : goal.returns-clause-reads
returns-clause-reads g c = λ cost meter fills.
    (exact_counted c.args.r.now c.read_exact.new.self _ fills c.read_exact.result c.read_exact.new.buf c.read_exact.auto.buf
    c.read_exact.ensures.leaves).cost cost meter

pub returns-clause-left : goal.returns-clause-left
returns-clause-left g c = λ fills.
    let counted = exact_counted c.args.r.now c.read_exact.new.self _ fills c.read_exact.result c.read_exact.new.buf c.read_exact.auto.buf
    c.read_exact.ensures.leaves in
    (counted.still, counted.left)
