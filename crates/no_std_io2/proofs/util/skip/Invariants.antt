-- `skip` ends with its reader's turns.
use Rattle.no_std_io2_base.proofs.{TakesLemmas.{reader}, PieceLoops.{PortionsTaken}}
use Rattle.no_std_io2.proofs.util.skip.Given as goal

abbrev pub invariant-pieces : goal.invariant-pieces
invariant-pieces g l = PortionsTaken (reader g.B.Stored g.B.Read) l.initial.reader l.initial.left l.left l.reader

abbrev pub decreases-pieces : goal.decreases-pieces
decreases-pieces g l = g.B.Read.turns l.reader
