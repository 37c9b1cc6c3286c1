-- The calls so far were a run, and there is room for the replies to the others.
use Rattle.no_std_io2.proofs.Words.{◌≡◌, ◌+◌, ◌-◌, ◌≤◌, ◌++◌, length, take, vec_len}
use Rattle.std.specs.Vec.{vec_capacity}
use Rattle.io_bench.specs.{Appended.{appended}, Runs.{RunCalls}}
use Rattle.io_bench.proofs.runs.run_writes.Given as goal

abbrev pub invariant-calls : goal.invariant-calls
invariant-calls g l =
    let old = l.fn.replies.items in
    record {
      appends : l.replies.items ≡ old ++ appended old l.replies.items;
      calls : RunCalls g.W.Write l.fn.w (take l.op-index l.ops) (appended old l.replies.items) l.w;
      room : vec_len l.replies + (length l.ops - l.op-index) ≤ vec_capacity l.replies;
    }
