-- The prover does not join one piece to those before it.
use Rattle.no_std_io2.proofs.Words.{arith, length, length-append, length-take, ◌-◌, take, drop, returned_err}
use Rattle.record_log.proofs.PieceLemmas.{some_then, adds_more}
use Rattle.record_log.proofs.opening.pass_payload.Goals as goal

pub returns-in_err-next-clause-fetches : goal.returns-in_err-next-clause-fetches
returns-in_err-next-clause-fetches g c =
    rw (returned_err c.from_residual.ensures) (some_then c.pieces.invariant.fetches c.in_err-next.ensures.fetches)

pub returns-in_default-clause-fetches : goal.returns-in_default-clause-fetches
returns-in_default-clause-fetches g c =
    some_then c.pieces.invariant.fetches (rw c.in_default.is at c.in_ok-next.ensures.fetches)

pub pieces-preserved : goal.pieces-preserved
pieces-preserved g c =
    let n = c.min-n.result in
    let room = c.pieces.room in
    let k = c.args.len - c.pieces.left in record {
      some_room = omega (
        arith,
        c.add_piece.auto.piece,
        c.min-n.ensures,
        c.pieces-test.true,
        c.pieces.invariant.some_room,
        length-append c.add_piece.new.piece (drop n room),
        length-take n room,
      );
      part = omega (arith, c.pieces.invariant.part);
      fetches = some_then c.pieces.invariant.fetches (rw c.in-Some.is at c.in_ok-next.ensures.fetches);
      known = λ bytes told.
          let first = c.pieces.invariant.known bytes told in
          let next = rw c.in-Some.is at (c.in_ok-next.ensures.known (drop k bytes) first.2).1 in
          adds_more bytes k (length (take n room)) _ c.args.check c.pieces.sum c.in-Some.next first next
          (omega (arith, c.min-n.ensures, c.pieces.invariant.part, length-take n room));
    }
