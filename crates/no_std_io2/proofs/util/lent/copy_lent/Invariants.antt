-- `copy_lent` ends with its reader's turns.
use Rattle.no_std_io2_base.proofs.TakesLemmas.{reader}
use Rattle.no_std_io2.proofs.CopyLentLoop.{LentSoFar}
use Rattle.no_std_io2.proofs.util.lent.copy_lent.Given as goal

abbrev pub invariant-pieces : goal.invariant-pieces
invariant-pieces g l = LentSoFar (reader g.R.Stored g.R.Read) g.W.Write l.initial.reader l.initial.writer l.copied l.reader l.writer

abbrev pub decreases-pieces : goal.decreases-pieces
decreases-pieces g l = g.R.Read.turns l.reader
