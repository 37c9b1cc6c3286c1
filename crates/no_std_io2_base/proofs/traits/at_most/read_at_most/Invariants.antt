-- The loop ends with its reader's turns.
use Rattle.no_std_io2_base.proofs.{TakesLemmas.{reader}, AtMostLemmas.{AtMostSoFar}}
use Rattle.no_std_io2_base.proofs.traits.at_most.read_at_most.Given as goal

abbrev pub invariant-reads : goal.invariant-reads
invariant-reads g l = AtMostSoFar (reader g.R.Stored g.R.Read) l.fn.limit l.initial.reader l.fn.buf l.filled l.left l.buf l.reader

abbrev pub decreases-reads : goal.decreases-reads
decreases-reads g l = g.R.Read.turns l.reader
