-- The prover does not find that one more call and its reply join those before them.
use Rattle.std.proofs.{lemmas.Grind.{common_steps}, Common.{take_all}}
use Rattle.no_std_io2.proofs.Words.{arith, append-nil, take_more}
use Rattle.io_bench.proofs.RunLemmas.{appended-none, appended-one, appended-more, RunCalls-more, run_law}
use Rattle.io_bench.proofs.runs.run_writes.Goals as goal

pub calls-init : goal.calls-init
calls-init g c = grind (arith, append-nil, appended-none)

pub calls-preserved : goal.calls-preserved
calls-preserved g c = grind (arith, common_steps, RunCalls-more, appended-more, appended-one, take_more)

pub returns-clause-law : goal.returns-clause-law
returns-clause-law g c = run_law g.W.Write (rw (take_all c.calls.op-index c.args.ops.now (omega arith)) at c.calls.invariant.calls)
