-- The law: the search does not find where the content is split.
use Rattle.std.proofs.Common.{◌≡◌, ◌+◌, arith, length, take, drop, ap, ◌∙◌, take_at, length-take-le}
use Rattle.no_std_io2_base.specs.inner.Cursor.{cursor_left}
use Rattle.no_std_io2_base.proofs.{CursorLemmas.{left_after, takes_at, told_at}, InMemoryReads.{split_at, read_left}}
use Rattle.no_std_io2_base.proofs.cursor.reading.CursorRead.read.Goals as goal

pub returns-clause-law : goal.returns-clause-law
returns-clause-law g c =
    let n = c.copy_prefix-n.result in
    let buf = c.copy_prefix-n.new.to in
    let here = c.args.self.now in
    let content = g.T.AsSlice.slice here.inner in
    let left = c.left.result.now in
    let front : take n buf ≡ take n left =
    ap (take n) c.copy_prefix-n.ensures.copied ∙ take_at _ _ n (length-take-le n left (omega arith)) in
    let split = split_at n (drop here.pos content) (front ∙ ap (take n) c.left.ensures.left) (left_after content here.pos n) in
    let long = length-take-le n buf (omega (arith, c.copy_prefix-n.ensures.count)) in
    read_left {left = cursor_left g.T.AsSlice.slice} (λ old new call given. given) buf n (record {
      split = split;
      takes = takes_at content here.pos (here.pos + n) (take n buf) split (omega (arith, long));
      told = told_at content (here.pos + n);
    }) (omega (arith, c.copy_prefix-n.ensures.count, ap length c.left.ensures.left, c.copy_prefix-n.auto.to))
