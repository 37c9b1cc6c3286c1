-- What was put so far, with what is left.
use Rattle.numbers.proofs.VarintLemmas.{PutSoFar}
use Rattle.numbers.proofs.varint.put_varint.Given as goal

abbrev pub invariant-bytes : goal.invariant-bytes
invariant-bytes l = PutSoFar l.n l.left l.i l.bytes
