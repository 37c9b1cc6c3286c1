-- The bytes so far are what the calls so far accepted.
use Rattle.no_std_io2.proofs.Words.{take}
use Rattle.io_bench.specs.Runs.{Run}
use Rattle.io_bench.proofs.accepted.joined.Given as goal

abbrev pub invariant-calls : goal.invariant-calls
invariant-calls l = Run (take l.i l.ops) (take l.i l.replies) l.bytes.items
