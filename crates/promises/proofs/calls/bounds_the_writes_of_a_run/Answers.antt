-- The prover does not find what takes all calls of the run: the bytes and the bound.
use Rattle.no_std_io2.proofs.Words.{subst, sym, TakesAll}
use Rattle.io_bench.proofs.RunCharges.{closes}
use Rattle.promises.proofs.calls.bounds_the_writes_of_a_run.Goals as goal

pub returns-in-Ok : goal.returns-in-Ok
returns-in-Ok g c =
    let start = c.new-buffered.ensures in
    let run = c.in_ok-run_writes.ensures.law in
    let all = run.all (subst (TakesAll g.W.Write) (sym start.inner) c.requires.all) in
    let ends = closes g.W.Write c.requires.some c.args.device c.args.ops.now _ c.in-Ok.inner (λ a b call may. may) c.new-buffered.result
    c.run_writes.new.w start.inner start.empty c.requires.all run.ran all.1 run.calls c.in-Ok.ensures.law in
    record { bytes = ends.bytes; bound = ends.bound; fails = tt }
