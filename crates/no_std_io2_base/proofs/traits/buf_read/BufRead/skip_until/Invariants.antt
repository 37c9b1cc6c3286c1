-- `skip_until` ends with its reader's turns.
use Rattle.no_std_io2_base.proofs.{TakesLemmas.{reader}, PieceLoops.{SkipSoFar}}
use Rattle.no_std_io2_base.proofs.traits.buf_read.BufRead.skip_until.Given as goal

abbrev pub invariant-pieces : goal.invariant-pieces
invariant-pieces g l = SkipSoFar (reader g.Self.Stored g.Self.Read) l.delim l.fn.self l.skipped l.self

abbrev pub decreases-pieces : goal.decreases-pieces
decreases-pieces g l = g.Self.Read.turns l.self
