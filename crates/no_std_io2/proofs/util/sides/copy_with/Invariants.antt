-- `copy_with` ends with its reader's turns.
use Rattle.no_std_io2.proofs.{Words.{length}, CopyLoop.{CopySoFar}}
use Rattle.no_std_io2_base.proofs.TakesLemmas.{reader}
use Rattle.no_std_io2.proofs.util.sides.copy_with.Given as goal

abbrev pub invariant-reads : goal.invariant-reads
invariant-reads g l =
    CopySoFar (reader g.R.Stored g.R.Read) g.W.Write (length l.initial.buf) l.initial.reader l.initial.writer l.copied l.buf
    l.reader l.writer

abbrev pub decreases-reads : goal.decreases-reads
decreases-reads g l = g.R.Read.turns l.reader
