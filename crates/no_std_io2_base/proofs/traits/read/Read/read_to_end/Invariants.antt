-- `read_to_end` ends with its reader's turns.
use Rattle.no_std_io2_base.{specs.inner.Read.{IsRoom}, proofs.{TakesLemmas.{reader}, ToEndLemmas.{ToEndSoFar}}}
use Rattle.no_std_io2_base.proofs.traits.read.Read.read_to_end.Given as goal

abbrev pub invariant-reads : goal.invariant-reads
invariant-reads g l = ToEndSoFar IsRoom (reader g.Self.Stored g.Self.Read) l.initial.self l.fn.buf l.filled l.buf l.self

abbrev pub decreases-reads : goal.decreases-reads
decreases-reads g l = g.Self.Read.turns l.self
