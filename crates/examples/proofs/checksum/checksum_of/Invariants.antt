-- The bytes so far were read, and summed up. It ends with its reader's turns.
use Rattle.no_std_io2.proofs.{Words.{◌≡◌, length}, TakesLemmas.{reader}}
use Rattle.examples.proofs.SumLemmas.{SumsSoFar}
use Rattle.examples.proofs.checksum.checksum_of.Given as goal

abbrev pub invariant-pieces : goal.invariant-pieces
invariant-pieces g l = record {
  sums : SumsSoFar (λ o. reader (goal.Read-dyn g o).Stored (goal.Read-dyn g o).Read) l.initial.r.now l.r.now l.total;
  room : length l.buf ≡ length l.initial.buf;
}

abbrev pub decreases-pieces : goal.decreases-pieces
decreases-pieces g l = (goal.Read-dyn g l.r.now).Read.turns l.r.now.1
