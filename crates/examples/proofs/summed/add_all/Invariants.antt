-- The sum so far.
use Rattle.no_std_io2.proofs.Words.{◌≡◌, ◌+◌, ◌%◌, ◌^◌, take, sum}
use Rattle.examples.proofs.summed.add_all.Given as goal

abbrev pub invariant-bytes : goal.invariant-bytes
invariant-bytes l = l.total % 2 ^ 64 ≡ (l.fn.start + sum (take l.b-index l.bytes)) % 2 ^ 64
