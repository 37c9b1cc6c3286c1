-- The bytes that were read so far are held. Each read spends a turn of the inner reader.
use Rattle.no_std_io2_base.proofs.TakesLemmas.{reader}
use Rattle.no_std_io2.proofs.FillToLemmas.{FilledSoFar}
use Rattle.no_std_io2.proofs.buffered.buf_reader.BufReader.fill_to.Given as goal

abbrev pub invariant-reads : goal.invariant-reads
invariant-reads g l = FilledSoFar (reader g.R.Stored g.R.Read) l.n l.initial.self l.self

abbrev pub decreases-reads : goal.decreases-reads
decreases-reads g l = g.R.Read.turns l.self.inner
