-- What is gone from `rest` was accepted, and each turn shortens it or spends a turn of the writer.
use Rattle.std.proofs.Common.{◌+◌, codes, length}
use Rattle.no_std_io2_base.{specs.inner.Writers.{CallOf}, proofs.CallsLemmas.{CallsSoFar}}
use Rattle.no_std_io2_base.proofs.traits.write.Write.write_rest.Given as goal

abbrev pub invariant-writes : goal.invariant-writes
invariant-writes g l =
    let w = g.Self.Write in
    CallsSoFar (CallOf w) (codes "failed to write whole buffer") l.initial.self l.initial.rest.now l.rest.now l.self

abbrev pub decreases-writes : goal.decreases-writes
decreases-writes g l = (g.Self.Write.told l.self).turns + length l.rest.now
