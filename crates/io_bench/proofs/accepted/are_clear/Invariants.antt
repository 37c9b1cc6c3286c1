-- Each of the calls so far has a reply that says what was accepted.
use Rattle.no_std_io2.proofs.Words.{take}
use Rattle.io_bench.specs.Joined.{AreClear}
use Rattle.io_bench.proofs.accepted.are_clear.Given as goal

abbrev pub invariant-calls : goal.invariant-calls
invariant-calls l = AreClear (take l.i l.ops) (take l.i l.replies)
