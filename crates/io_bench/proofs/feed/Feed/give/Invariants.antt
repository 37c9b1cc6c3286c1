-- The first n leading bytes were given, and the events after them are left.
use Rattle.no_std_io2.proofs.Words.{◌≡◌, ◌-◌, ◌≤◌, length, take, drop}
use Rattle.io_bench.specs.Feed.{feed_left, feed_piece, leading_bytes}
use Rattle.io_bench.proofs.feed.Feed.give.Given as goal

abbrev pub invariant-bytes : goal.invariant-bytes
invariant-bytes l =
    let left = feed_left l.initial.self in
    record {
      fits : l.n ≤ l.most;
      enough : l.n ≤ length (leading_bytes left);
      given : take l.n l.buf ≡ take l.n (leading_bytes left);
      left : feed_left l.self ≡ drop l.n left;
      piece : feed_piece l.self ≡ feed_piece l.initial.self;
    }

abbrev pub decreases-bytes : goal.decreases-bytes
decreases-bytes l = l.most - l.n
