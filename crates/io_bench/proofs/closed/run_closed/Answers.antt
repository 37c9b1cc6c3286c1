-- The prover does not find the bytes and the bound, which need all calls of the run, nor that the
-- `into_inner` cannot fail.
use Rattle.std.proofs.Common.{arith}
use Rattle.no_std_io2.proofs.Words.{subst, sym, TakesAll}
use Rattle.io_bench.{specs.Tally.{tally_writes}, proofs.RunCharges.{closes, tally_meters, tallied_writer}}
use Rattle.io_bench.proofs.closed.run_closed.Goals as goal

pub returns-in-Ok : goal.returns-in-Ok
returns-in-Ok g c =
    let I = tallied_writer g.W.Write in
    let start = c.new-buffered.ensures in
    let run = c.in_ok-run_writes.ensures in
    let all = run.law.all (subst (TakesAll I) (sym start.inner) c.requires.all) in
    let ends = closes I c.requires.some c.args.w c.args.ops.now _ c.in-Ok.tally (λ a b call may. may) c.new-buffered.result
    c.run_writes.new.w start.inner start.empty c.requires.all run.law.ran all.1 run.law.calls c.in-Ok.ensures.law in
    record {
      appends = run.appends;
      calls = (c.new-buffered.result, c.run_writes.new.w, start.inner, start.empty, run.law, c.in-Ok.ensures.law);
      whole = all.1;
      bytes = ends.bytes;
      all = c.in-Ok.ensures.law.all all.0;
      bound = ends.bound tally_writes (tally_meters g.W.Write) c.requires.all;
      kind = tt;
      full = tt;
      err = tt;
    }

pub returns-in-Err-clause-kind : goal.returns-in-Err-clause-kind
returns-in-Err-clause-kind g c = grind (arith, tallied_writer)
