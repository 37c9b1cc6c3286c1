-- `read_full` ends with its reader's turns.
use Rattle.no_std_io2_base.proofs.{ReadLoops.{FullSoFar}, TakesLemmas.{reader}}
use Rattle.no_std_io2_base.proofs.traits.read.Read.read_full.Given as goal

abbrev pub invariant-reads : goal.invariant-reads
invariant-reads g l = FullSoFar (reader g.Self.Stored g.Self.Read) l.initial.self l.initial.buf l.initial.filled l.filled l.buf l.self

abbrev pub decreases-reads : goal.decreases-reads
decreases-reads g l = g.Self.Read.turns l.self
