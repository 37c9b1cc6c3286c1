-- `read_until` ends with its reader's turns.
use Rattle.no_std_io2_base.proofs.{TakesLemmas.{reader}, PieceLoops.{UntilSoFar}}
use Rattle.no_std_io2_base.proofs.traits.buf_read.BufRead.read_until.Given as goal

abbrev pub invariant-pieces : goal.invariant-pieces
invariant-pieces g l = UntilSoFar (reader g.Self.Stored g.Self.Read) l.delim l.fn.self l.fn.buf l.buf l.self

abbrev pub decreases-pieces : goal.decreases-pieces
decreases-pieces g l = g.Self.Read.turns l.self
