-- The prover does not find which events a read takes.
use Rattle.io_bench.proofs.DeviceLemmas.{feed_reads}
use Rattle.io_bench.proofs.feed.FeedRead.read.Goals as goal

pub returns-in-None : goal.returns-in-None
returns-in-None c =
    let gave = c.give.ensures in
    record {
      law = feed_reads c.args.self.now c.take_failure.new.self c.give.new.self c.give.result c.args.buf.now c.give.new.buf c.give.auto.buf
          c.if-is_empty.ensures c.in-None.ensures.kind c.in-None.ensures.left c.take_failure.ensures.piece gave.count gave.bytes gave.left
          gave.piece;
    }
