-- The bytes that were read so far.
use Rattle.no_std_io2.proofs.TakesLemmas.{reader}
use Rattle.numbers.proofs.VarintLemmas.{GatheredSoFar}
use Rattle.numbers.proofs.varint.gather.Given as goal

abbrev pub invariant-bytes : goal.invariant-bytes
invariant-bytes g l = GatheredSoFar (reader g.R.Stored g.R.Read) l.fn.r l.fn.bytes l.i l.bytes l.r
