-- The prover does not find which events the bytes so far are.
use Rattle.no_std_io2.proofs.Words.{arith, sym, ◌∙◌}
use Rattle.io_bench.{specs.Feed.{feed_left}, proofs.DeviceLemmas.{given_next, given_all}}
use Rattle.io_bench.proofs.feed.Feed.give.Goals as goal

pub bytes-preserved : goal.bytes-preserved
bytes-preserved c =
    let before = c.bytes.invariant in
    let step =
    given_next c.bytes.n c.in-Some.byte (feed_left c.args.self.now) (feed_left c.take_byte.new.self) c.bytes.buf
    (omega arith) before.enough before.given (sym before.left ∙ c.in-Some.ensures.byte) in
    record {
      fits = omega arith;
      enough = step.0;
      given = step.1;
      left = step.2;
      piece = c.take_byte.ensures.piece ∙ before.piece;
    }

pub returns-in-None-clause-count : goal.returns-in-None-clause-count
returns-in-None-clause-count c =
    let before = c.bytes.invariant in
    let all = given_all c.bytes.n (feed_left c.args.self.now) (feed_left c.bytes.self) before.enough before.left c.in-None.ensures.byte.0 in
    omega (arith, all, before.fits)
