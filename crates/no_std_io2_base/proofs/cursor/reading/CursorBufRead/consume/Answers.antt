-- The law: the search does not find where the content is split.
use Rattle.std.proofs.Common.{◌+◌, refl, take, drop, arith, length-take-le}
use Rattle.no_std_io2_base.proofs.{CursorLemmas.{left_after, takes_at}, InMemoryReads.{split_at}}
use Rattle.no_std_io2_base.proofs.cursor.reading.CursorBufRead.consume.Goals as goal

pub returns-clause-law : goal.returns-clause-law
returns-clause-law g c =
    let here = c.args.self.now in
    let n = c.args.amount in
    let content = g.T.AsSlice.slice here.inner in
    let left = drop here.pos content in
    let after = left_after content here.pos n in
    record {
      held = after;
      takes = takes_at content here.pos (here.pos + n) (take n left) (split_at n left refl after)
          (omega (arith, length-take-le n left c.requires));
      call = (c.requires, after);
    }
