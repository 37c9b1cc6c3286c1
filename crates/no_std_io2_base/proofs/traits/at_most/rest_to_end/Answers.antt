-- What it read into the room is all, or the reader's own `read_to_end` goes on from there.
use Rattle.std.proofs.{Common.{Ok, Err, arith}, lemmas.Result.{err_from_is_err_and}}
use Rattle.no_std_io2_base.proofs.AtMostLemmas.{at_most_all, at_most_failed, at_most_then}
use Rattle.no_std_io2_base.proofs.traits.at_most.rest_to_end.Goals as goal

pub returns-in_err-read : goal.returns-in_err-read
returns-in_err-read g c =
    let p = err_from_is_err_and c.from_residual.result c.from_residual.ensures.1 in
    rw (p.1, p.2) (record { law = at_most_failed c.in_err-read.ensures.law })

pub returns-then-read-room : goal.returns-then-read-room
returns-then-read-room g c = record { law = at_most_all c.in_ok-read.ensures.law c.if-read-room.true }

pub returns-in_err-read_to_end : goal.returns-in_err-read_to_end
returns-in_err-read_to_end g c =
    let p = err_from_is_err_and c.from_residual-in_err-read_to_end.result c.from_residual-in_err-read_to_end.ensures.1 in
    rw (p.1, p.2) (record {
      law = at_most_then (Err _) 0 c.in_ok-read.ensures.law (omega (arith, c.if-read-room.false)) c.in_err-read_to_end.ensures.law tt;
    })

pub returns : goal.returns
returns g c = record {
  law = at_most_then (Ok _) _ c.in_ok-read.ensures.law (omega (arith, c.if-read-room.false)) c.in_ok-read_to_end.ensures.law (omega arith);
}
