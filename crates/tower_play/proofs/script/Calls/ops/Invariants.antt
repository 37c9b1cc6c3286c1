use Rattle.no_std_io2.proofs.Words.{◌≡◌, take, vec_len}
use Rattle.std.proofs.Common.{vec_capacity}
use Rattle.tower_play.specs.Calls.{AreOps}
use Rattle.tower_play.proofs.script.Calls.ops.Given as goal

abbrev pub invariant-steps : goal.invariant-steps
invariant-steps l =
    record {
      room : vec_capacity l.ops ≡ vec_capacity l.initial.ops;
      count : vec_len l.ops ≡ l.step-index;
      so : AreOps (take l.step-index l.self.steps.items) l.self.texts.items l.ops.items l.rest;
    }
